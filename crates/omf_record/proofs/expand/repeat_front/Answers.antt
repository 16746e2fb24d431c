use Rattle.std.proofs.Common.{◌≡◌, ◌*◌, List, length, take, drop, sym, ap, ◌∙◌, arith}
use Rattle.std.proofs.lemmas.List.{length-take-le, take_at}
use Rattle.std.proofs.lemmas.Nat.{mul-le}
use Rattle.omf_record.proofs.Repetition.{copies_none, first_copy, again, all_laid}
use Rattle.omf_record.proofs.expand.repeat_front.Goals as goal

pub returns-then-once-eq0 : goal.returns-then-once-eq0
returns-then-once-eq0 g c = copies_none c.args.repeat c.args.once c.args.items.now c.if-once-eq0.true

pub loop-laid-init : goal.loop-laid-init
loop-laid-init g c =
    let items : List g.row.T.Denot = c.args.items.now in
    record {
      least = omega arith;
      most = omega (arith, mul-le 1 c.args.once c.args.repeat c.args.once (omega arith) (omega arith));
      laid =
          first_copy (take c.args.once items) c.args.once
          (length-take-le c.args.once items
          (omega (arith, mul-le 1 c.args.once c.args.repeat c.args.once (omega arith) (omega arith))));
    }

pub slice_bounds-copy_from_slice-end-in-loop-laid :
    goal.slice_bounds-copy_from_slice-end-in-loop-laid
slice_bounds-copy_from_slice-end-in-loop-laid g c =
    sym (length-take-le c.min-count.result c.split_at_mut-front.result.1.now
    (omega (arith, c.split_at_mut-front.ensures.back_len)))

pub slice_bounds-copy_from_slice-end-in-loop-laid-3 :
    goal.slice_bounds-copy_from_slice-end-in-loop-laid-3
slice_bounds-copy_from_slice-end-in-loop-laid-3 g c =
    sym (length-take-le c.min-count.result c.split_at_mut-front.result.0.now
    (omega (arith, c.split_at_mut-front.ensures.front_len)))

pub copy_from_slice-requires : goal.copy_from_slice-requires
copy_from_slice-requires g c =
    let split = c.split_at_mut-front.ensures in
    let n = c.min-count.result in
    length-take-le n c.split_at_mut-front.result.1.now (omega (arith, split.back_len))
    ∙ sym (length-take-le n c.split_at_mut-front.result.0.now (omega (arith, split.front_len)))

pub loop-laid-preserved : goal.loop-laid-preserved
loop-laid-preserved g c =
    let old = c.loop-laid.invariant in
    let once = c.args.once in
    let items : List g.row.T.Denot = c.args.items.now in
    let split = c.split_at_mut-front.ensures in
    let front : List g.row.T.Denot = c.split_at_mut-front.result.0.now in
    let rest : List g.row.T.Denot = c.split_at_mut-front.result.1.now in
    let size : length (take once items) ≡ once =
    length-take-le once items (omega (arith, mul-le 1 once c.args.repeat once (omega arith) (omega arith))) in
    let begun : take c.loop-laid.laid c.loop-laid.items ≡ front =
    ap (take c.loop-laid.laid) split.value ∙ take_at front rest c.loop-laid.laid split.front_len in
    record {
      least = omega (arith, old.least);
      most = omega arith;
      laid =
          again (take once items) front c.copy_from_slice.new.self (drop c.min-count.result rest) c.args.repeat once
          c.loop-laid.laid c.min-count.result size (rw begun at old.laid) c.loop-laid-test.true c.min-count.ensures
          c.copy_from_slice.ensures.after;
    }

pub returns : goal.returns
returns g c =
    let items : List g.row.T.Denot = c.loop-laid.items in
    let all : c.loop-laid.laid ≡ c.args.repeat * c.args.once = omega arith in
    all_laid (take c.args.once c.args.items.now) c.args.repeat c.args.once (take (c.args.repeat * c.args.once) items)
    (omega arith) (rw all at c.loop-laid.invariant.laid)
