use Rattle.std.proofs.Common.{[], ◌∷◌, ◌∙◌, map, not, ap, sym, arith}
use Rattle.std.proofs.lemmas.List.{map-append, take_all}
use Rattle.std.specs.List.{filter}
use Rattle.omf_communal.specs.Modules.{Declared}
use Rattle.omf_communal.specs.inside.Met.{declared_said}
use Rattle.omf_communal.proofs.Listing.{failing-turn, passing-turn}
use Rattle.omf_communal.proofs.modules.unoffered.Goals as goal
use Rattle.omf_communal.proofs.modules.unoffered.Goals.{then-not-is_offered+in_ok-push, else-not-is_offered}

pub loop-each-preserved : goal.loop-each-preserved
loop-each-preserved g c = λ offers told.
    let test = λ (d : Declared). not (offers d.name) in
    let items = c.args.declared.now in
    let i = c.loop-each.each-index in
    let d = c.each-item.result in
    let is = c.is_offered.ensures ∙ told d.name in
    elim c.if-not-is_offered.branch [
      | then-not-is_offered+in_ok-push w ↦ ap (λ v. map declared_said v.items) w.wanted-is
          ∙ passing-turn declared_said test items i d (map declared_said c.loop-each.wanted.items) _
          c.loop-each-test.true c.each-item.is
          (ap not (sym is ∙ w.if-not-is_offered.true)) (c.loop-each.invariant offers told)
          (ap (map declared_said) w.in_ok-push.ensures.items
          ∙ map-append declared_said c.loop-each.wanted.items (d ∷ []))
      | else-not-is_offered w ↦ ap (λ v. map declared_said v.items) w.wanted-is
          ∙ failing-turn declared_said test items i d (map declared_said c.loop-each.wanted.items) c.loop-each-test.true
          c.each-item.is
          (ap not (sym is ∙ w.if-not-is_offered.false)) (c.loop-each.invariant offers told)
    ]

pub loop-each-init : goal.loop-each-init
loop-each-init g c = λ offers told. ap (map declared_said) c.new-wanted.ensures.items

pub returns : goal.returns
returns g c = λ offers told.
    c.loop-each.invariant offers told
    ∙ ap (λ ds. filter (λ (d : Declared). not (offers d.name)) (map declared_said ds))
    (take_all c.loop-each.each-index c.args.declared.now (omega arith))
