use Rattle.std.proofs.Common.{◌∙◌, ap, arith, filter, map, refl, sym}
use Rattle.std.proofs.lemmas.List.{take_all}
use Rattle.omf_module.specs.Module.{PublicSymbol}
use Rattle.omf_module.specs.Seen.{public_seen}
use Rattle.omf_communal.specs.Far.{is_far_local}
use Rattle.omf_communal.specs.Modules.{bytes_of}
use Rattle.omf_communal.proofs.Reaching.{named-in, named-out}
use Rattle.omf_communal.proofs.far.local_far_names.Goals as goal
use Rattle.omf_communal.proofs.far.local_far_names.Goals.{then-is_far_local+in_ok-push, else-is_far_local}

pub loop-index-preserved : goal.loop-index-preserved
loop-index-preserved g c =
    let named = λ (p : PublicSymbol). p.name in
    let m = c.args.from.now in
    let i = c.loop-index.index in
    let s = c.public_symbol-symbol.result in
    let is = c.is_far_local.ensures in
    elim c.if-is_far_local.branch [
      | then-is_far_local+in_ok-push w ↦ ap (λ v. bytes_of v.items) w.names-is
          ∙ named-in named (is_far_local m) m.publics i (public_seen s) c.public_symbol-symbol.ensures s.name
          c.loop-index.names.items _ refl (sym is ∙ w.if-is_far_local.true) c.loop-index.invariant
          w.in_ok-push.ensures.items
      | else-is_far_local w ↦ ap (λ v. bytes_of v.items) w.names-is
          ∙ named-out named (is_far_local m) m.publics i (public_seen s) c.public_symbol-symbol.ensures
          c.loop-index.names.items (sym is ∙ w.if-is_far_local.false) c.loop-index.invariant
    ]

pub returns : goal.returns
returns g c =
    c.loop-index.invariant
    ∙ ap (λ xs. map (λ (p : PublicSymbol). p.name) (filter (is_far_local c.args.from.now) xs))
    (take_all c.loop-index.index c.args.from.now.publics (omega arith))
