use Rattle.std.proofs.Common.{◌++◌, ◌∷◌, [], ap, ap₂, map, sym, ◌∙◌}
use Rattle.std.proofs.lemmas.Iterator.Adapters.{YieldsList-from_vec}
use Rattle.std.proofs.lemmas.Iterator.Consumers.{YieldsList-end}
use Rattle.std.proofs.lemmas.List.{map-append, map-id}
use Rattle.omf_module.specs.Grouped.{grouped}
use Rattle.doslink_passes.specs.Meant.{far_data, far_group}
use Rattle.doslink_passes.proofs.meant.all_grouped.Goals as goal

pub loop-one-init : goal.loop-one-init
loop-one-init g c = c.new-all.ensures.items

pub loop-one-preserved : goal.loop-one-preserved
loop-one-preserved g c =
    c.in_ok-push.ensures.items
    ∙ ap₂ (λ l m. l ++ m ∷ []) c.loop-one.invariant c.in_ok-group_class.ensures
    ∙ sym (map-append (grouped far_data far_group) c.loop-one.yielded (c.in-Some.one ∷ []))

pub returns : goal.returns
returns g c =
    let modules = c.args.modules.items in
    let so_far = c.loop-one.yielded in
    let b = c.into_iter-one-iterator.ensures.into_iter_gives in
    let e = YieldsList-end (YieldsList-from_vec {s = c.into_iter-one-iterator.result} modules b.0
    (b.1 ∙ c.args.modules.ok.0)) so_far c.loop-one.one-iterator c.loop-one.yielded_by c.next.result c.next.new.self
    c.in-None.is c.next.ensures.steps in
    c.loop-one.invariant ∙ ap (map (grouped far_data far_group)) (sym (map-id so_far) ∙ e.0)
