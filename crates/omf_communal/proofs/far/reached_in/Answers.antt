use Rattle.std.proofs.Common.{◌∙◌, ap, arith, filter, map, refl, sym}
use Rattle.std.proofs.lemmas.List.{take_all}
use Rattle.std.specs.List.{list_any}
use Rattle.omf_module.specs.Module.{ExternalSymbol}
use Rattle.omf_module.specs.Seen.{external_seen}
use Rattle.omf_place.specs.Names.{agrees}
use Rattle.omf_communal.specs.Far.{is_reached, local_far_names}
use Rattle.omf_communal.specs.Modules.{bytes_of}
use Rattle.omf_communal.proofs.Reaching.{chosen, named-in, named-out, same-test}
use Rattle.omf_communal.proofs.far.reached_in.Goals as goal
use Rattle.omf_communal.proofs.far.reached_in.Goals.{then-is_reached+in_ok-push, else-is_reached}

pub loop-index-preserved : goal.loop-index-preserved
loop-index-preserved g c = λ list told.
    let names = c.args.names in
    let m = c.args.from.now in
    let i = c.loop-index.index in
    let n = c.external-external.result.name in
    let x = external_seen c.external-external.result in
    let offsets = c.in_ok-by_offset.ensures n
    ∙ ap (list_any (agrees names n.now)) (ap bytes_of c.deref.ensures.value ∙ c.in_ok-offsets.ensures) in
    let bases = c.in_ok-by_base.ensures n
    ∙ ap (list_any (agrees names n.now)) (ap bytes_of c.deref-2.ensures.value ∙ c.in_ok-bases.ensures) in
    let locals = c.in_ok-local_far.ensures n
    ∙ ap (list_any (agrees names n.now)) (ap bytes_of c.deref-3.ensures.value ∙ c.in_ok-locals.ensures) in
    let those = chosen x.local _ _ (agrees names n.now) (local_far_names m) list locals (told n) in
    let is = c.is_reached.ensures ∙ same-test _ _ _ _ _ _ those offsets bases in
    elim c.if-is_reached.branch [
      | then-is_reached+in_ok-push w ↦ ap (λ v. bytes_of v.items) w.reached-is
          ∙ named-in (λ (e : ExternalSymbol). e.name) (is_reached names list m) m.externals i x c.external-external.ensures n
          c.loop-index.reached.items _ refl (sym is ∙ w.if-is_reached.true) (c.loop-index.invariant list told)
          w.in_ok-push.ensures.items
      | else-is_reached w ↦ ap (λ v. bytes_of v.items) w.reached-is
          ∙ named-out (λ (e : ExternalSymbol). e.name) (is_reached names list m) m.externals i x c.external-external.ensures
          c.loop-index.reached.items (sym is ∙ w.if-is_reached.false) (c.loop-index.invariant list told)
    ]

pub returns : goal.returns
returns g c = λ list told.
    c.loop-index.invariant list told
    ∙ ap (λ xs. map (λ (e : ExternalSymbol). e.name) (filter (is_reached c.args.names list c.args.from.now) xs))
    (take_all c.loop-index.index c.args.from.now.externals (omega arith))
