use Rattle.std.proofs.Common.{◌≡◌, ◌<◌, [], Ok, ap, ap₂, arith, get_or, length, rules, sym, ◌∙◌}
use Rattle.std.proofs.lemmas.Iterator.Adapters.{YieldsList-from_vec}
use Rattle.std.proofs.lemmas.Iterator.Consumers.{YieldsList-end, YieldsList-so_far, YieldsList-turn}
use Rattle.std.proofs.lemmas.List.{get_or-map, length-map, map-id}
use Rattle.std.proofs.lemmas.Result.{err_from_is_err_and}
use Rattle.omf_module.specs.Lengths.{with_lengths}
use Rattle.omf_stack.specs.CutModules.{in_module}
use Rattle.omf_stack.specs.inside.Cutting.{lengthened, lists}
use Rattle.omf_stack.proofs.EachModule.{fault-told, lengthened-count, next-fault, next-lengthened, parts-at}
use Rattle.omf_stack.proofs.cutting.all_lengthened.Goals as goal

pub loop-one-init : goal.loop-one-init
loop-one-init g c = ap Ok (sym c.new-all.ensures.items)

pub bounds-lengths-index : goal.bounds-lengths-index
bounds-lengths-index g c =
    let ls = lists c.args.lengths.now in
    let modules = c.args.modules.items in
    let so_far = c.loop-one.yielded in
    let b = c.into_iter-one-iterator.ensures.into_iter_gives in
    let t = YieldsList-turn (YieldsList-from_vec {s = c.into_iter-one-iterator.result} modules b.0
    (b.1 ∙ c.args.modules.ok.0)) so_far c.loop-one.one-iterator c.loop-one.yielded_by c.next.result c.next.new.self
    c.in-Some.one c.in-Some.is c.next.ensures.steps in
    let long = length-map c.args.lengths.now (λ v. v.items) in
    let count = lengthened-count 0 ls so_far c.loop-one.all.items c.loop-one.invariant
    (omega (arith, t.0, c.requires, long)) in
    omega (arith, t.0, c.requires, count, c.len-index.ensures, c.loop-one.all.ok.0)

pub offset_bounds-lengths-index : goal.offset_bounds-lengths-index
offset_bounds-lengths-index g c = let w = bounds-lengths-index g c in search rules

pub loop-one-preserved : goal.loop-one-preserved
loop-one-preserved g c =
    let lengths = c.args.lengths.now in
    let ls = lists lengths in
    let modules = c.args.modules.items in
    let so_far = c.loop-one.yielded in
    let one = c.in-Some.one in
    let item = c.index-lengths-index.result in
    let b = c.into_iter-one-iterator.ensures.into_iter_gives in
    let t = YieldsList-turn (YieldsList-from_vec {s = c.into_iter-one-iterator.result} modules b.0
    (b.1 ∙ c.args.modules.ok.0)) so_far c.loop-one.one-iterator c.loop-one.yielded_by c.next.result c.next.new.self
    one c.in-Some.is c.next.ensures.steps in
    let long = length-map lengths (λ v. v.items) in
    let short : length so_far < length ls = omega (arith, t.0, c.requires, long) in
    let count = lengthened-count 0 ls so_far c.loop-one.all.items c.loop-one.invariant (omega (arith, short)) in
    let at : length so_far ≡ c.len-index.result =
    omega (arith, count, c.len-index.ensures, c.loop-one.all.ok.0) in
    let its : get_or ls (length so_far) [] ≡ c.deref.result.now =
    get_or-map (λ v. v.items) lengths (length so_far) item [] (omega (arith, short, long))
    ∙ ap (λ k. (get_or lengths k item).items) at ∙ ap (λ v. v.items) (sym c.index-lengths-index.is)
    ∙ sym c.deref.ensures.value in
    let same : in_module (length so_far) (with_lengths (get_or ls (length so_far) []) one)
    ≡ in_module c.len-index.result (with_lengths c.deref.result.now one) =
    ap₂ (λ k l. in_module k (with_lengths l one)) at its in
    next-lengthened ls so_far c.loop-one.all.items c.loop-one.invariant short one c.in_ok-cut.cut
    (same ∙ sym c.in_ok-cut.ensures)
    ∙ ap Ok (sym c.in_ok-push.ensures.items)

pub returns-in_err-cut : goal.returns-in_err-cut
returns-in_err-cut g c =
    let lengths = c.args.lengths.now in
    let ls = lists lengths in
    let modules = c.args.modules.items in
    let so_far = c.loop-one.yielded in
    let one = c.in-Some.one in
    let item = c.index-lengths-index.result in
    let b = c.into_iter-one-iterator.ensures.into_iter_gives in
    let t = YieldsList-turn (YieldsList-from_vec {s = c.into_iter-one-iterator.result} modules b.0
    (b.1 ∙ c.args.modules.ok.0)) so_far c.loop-one.one-iterator c.loop-one.yielded_by c.next.result c.next.new.self
    one c.in-Some.is c.next.ensures.steps in
    let long = length-map lengths (λ v. v.items) in
    let short : length so_far < length ls = omega (arith, t.0, c.requires, long) in
    let count = lengthened-count 0 ls so_far c.loop-one.all.items c.loop-one.invariant (omega (arith, short)) in
    let at : length so_far ≡ c.len-index.result =
    omega (arith, count, c.len-index.ensures, c.loop-one.all.ok.0) in
    let its : get_or ls (length so_far) [] ≡ c.deref.result.now =
    get_or-map (λ v. v.items) lengths (length so_far) item [] (omega (arith, short, long))
    ∙ ap (λ k. (get_or lengths k item).items) at ∙ ap (λ v. v.items) (sym c.index-lengths-index.is)
    ∙ sym c.deref.ensures.value in
    let same : in_module (length so_far) (with_lengths (get_or ls (length so_far) []) one)
    ≡ in_module c.len-index.result (with_lengths c.deref.result.now one) =
    ap₂ (λ k l. in_module k (with_lengths l one)) at its in
    let front = sym (map-id so_far)
    ∙ YieldsList-so_far (YieldsList-from_vec {s = c.into_iter-one-iterator.result} modules b.0
    (b.1 ∙ c.args.modules.ok.0)) so_far c.loop-one.one-iterator c.loop-one.yielded_by in
    let p = err_from_is_err_and c.from_residual.result c.from_residual.ensures.1 in
    rw (p.1, p.2)
    (fault-told _ _ (ap (lengthened 0 ls) (parts-at modules so_far one front t.0 t.1)
    ∙ next-fault ls so_far c.loop-one.all.items c.loop-one.invariant short one _ _ (same ∙ sym c.in_err-cut.ensures)))

pub returns : goal.returns
returns g c =
    let modules = c.args.modules.items in
    let so_far = c.loop-one.yielded in
    let b = c.into_iter-one-iterator.ensures.into_iter_gives in
    let e = YieldsList-end (YieldsList-from_vec {s = c.into_iter-one-iterator.result} modules b.0
    (b.1 ∙ c.args.modules.ok.0)) so_far c.loop-one.one-iterator c.loop-one.yielded_by c.next.result c.next.new.self
    c.in-None.is c.next.ensures.steps in
    ap (lengthened 0 (lists c.args.lengths.now)) (sym (sym (map-id so_far) ∙ e.0)) ∙ c.loop-one.invariant
