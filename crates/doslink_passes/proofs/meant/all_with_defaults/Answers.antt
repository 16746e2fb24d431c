use Rattle.std.proofs.Common.{ap, arith, length, map, rules, sym, zip, ◌∙◌}
use Rattle.std.proofs.lemmas.Iterator.Adapters.{YieldsList-from_vec}
use Rattle.std.proofs.lemmas.Iterator.Consumers.{YieldsList-end, YieldsList-turn}
use Rattle.std.proofs.lemmas.List.{map-id}
use Rattle.omf_search.specs.Results.{module_said}
use Rattle.doslink_link.specs.Linking.{bytes_of}
use Rattle.doslink_passes.specs.Meant.{with_defaults}
use Rattle.doslink_passes.proofs.Passing.{below, made-next, zip-none}
use Rattle.doslink_passes.proofs.meant.all_with_defaults.Goals as goal

pub loop-one-init : goal.loop-one-init
loop-one-init g c =
    let m = c.args.meanings.now in
    c.new-all.ensures.items
    ∙ sym (ap (map (with_defaults m.names (map module_said m.says.now))) (zip-none (bytes_of c.args.inputs.now)))

pub bounds-inputs-len : goal.bounds-inputs-len
bounds-inputs-len g c =
    let m = c.args.meanings.now in
    let modules = c.args.modules.items in
    let so_far = c.loop-one.yielded in
    let b = c.into_iter-one-iterator.ensures.into_iter_gives in
    let t = YieldsList-turn (YieldsList-from_vec {s = c.into_iter-one-iterator.result} modules b.0
    (b.1 ∙ c.args.modules.ok.0)) so_far c.loop-one.one-iterator c.loop-one.yielded_by c.next.result c.next.new.self
    c.in-Some.one c.in-Some.is c.next.ensures.steps in
    below (with_defaults m.names (map module_said m.says.now)) (bytes_of c.args.inputs.now) so_far c.loop-one.all.items
    c.len.result (length c.args.inputs.now) c.loop-one.invariant (c.len.ensures ∙ c.loop-one.all.ok.0)
    (omega (arith, t.0, c.requires))

pub offset_bounds-inputs-len : goal.offset_bounds-inputs-len
offset_bounds-inputs-len g c = let w = bounds-inputs-len g c in search rules

pub loop-one-preserved : goal.loop-one-preserved
loop-one-preserved g c =
    let m = c.args.meanings.now in
    let modules = c.args.modules.items in
    let so_far = c.loop-one.yielded in
    let b = c.into_iter-one-iterator.ensures.into_iter_gives in
    let t = YieldsList-turn (YieldsList-from_vec {s = c.into_iter-one-iterator.result} modules b.0
    (b.1 ∙ c.args.modules.ok.0)) so_far c.loop-one.one-iterator c.loop-one.yielded_by c.next.result c.next.new.self
    c.in-Some.one c.in-Some.is c.next.ensures.steps in
    made-next (with_defaults m.names (map module_said m.says.now)) c.args.inputs.now so_far c.loop-one.all.items
    c.push.new.self.items c.len.result _ c.in-Some.one c.in_ok-with_defaults.field-0 c.loop-one.invariant
    (c.len.ensures ∙ c.loop-one.all.ok.0) (omega (arith, t.0, c.requires)) c.in_ok-with_defaults.ensures
    c.in_ok-push.ensures.items

pub returns : goal.returns
returns g c =
    let m = c.args.meanings.now in
    let modules = c.args.modules.items in
    let so_far = c.loop-one.yielded in
    let b = c.into_iter-one-iterator.ensures.into_iter_gives in
    let e = YieldsList-end (YieldsList-from_vec {s = c.into_iter-one-iterator.result} modules b.0
    (b.1 ∙ c.args.modules.ok.0)) so_far c.loop-one.one-iterator c.loop-one.yielded_by c.next.result c.next.new.self
    c.in-None.is c.next.ensures.steps in
    c.loop-one.invariant
    ∙ ap (λ ms. map (with_defaults m.names (map module_said m.says.now)) (zip (bytes_of c.args.inputs.now) ms))
    (sym (map-id so_far) ∙ e.0)
