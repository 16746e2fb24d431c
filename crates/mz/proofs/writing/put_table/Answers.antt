use Rattle.std.proofs.Common.{arith, refl, ◌∙◌}
use Rattle.omf_frame.proofs.Told.{Appends-trans, Wrote-cut, Wrote-then}
use Rattle.mz.proofs.Parts.{table_joined, table_split}
use Rattle.mz.proofs.writing.put_table.Goals as goal

pub returns-in_err-put_all : goal.returns-in_err-put_all
returns-in_err-put_all g c =
    let loop = c.loop-at in
    let split = table_split c.args.addresses.now c.put_entries.new.bytes loop.at c.min-end.result
    (omega (arith, c.min-end.ensures)) c.put_entries.ensures in
    rw split (Wrote-then _ _ _ _ _ _ _ _ _ (loop.invariant.appended, loop.invariant.count)
    (Wrote-cut _ _ _ _ _ _ _ _ _ c.in_err-put_all.ensures refl c.from_residual.ensures.1))

pub loop-at-preserved : goal.loop-at-preserved
loop-at-preserved g c =
    let loop = c.loop-at in
    let joined = table_joined c.args.addresses.now c.put_entries.new.bytes loop.at c.min-end.result
    (omega (arith, c.min-end.ensures)) c.put_entries.ensures in
    record {
      within = omega (arith, c.min-end.ensures);
      count = c.in_ok-put_all.ensures.1 ∙ loop.invariant.count;
      appended = rw (← joined) (Appends-trans _ _ _ _ _ loop.invariant.appended c.in_ok-put_all.ensures.0);
    }
