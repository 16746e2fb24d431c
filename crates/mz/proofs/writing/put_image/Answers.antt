use Rattle.std.proofs.Common.{arith, refl, ◌∙◌}
use Rattle.omf_frame.proofs.Told.{Appends-trans, Wrote-cut, Wrote-then}
use Rattle.mz.proofs.Parts.{piece_joined, piece_split}
use Rattle.mz.proofs.writing.put_image.Goals as goal

pub returns-in_err-put_all : goal.returns-in_err-put_all
returns-in_err-put_all g c =
    let loop = c.loop-at in
    let split = piece_split c.args.program.now.image c.piece-piece.result.now loop.at _ c.min-len.result
    loop.invariant.within (rw (← c.written-end.ensures.same) c.min-len.ensures) c.piece-piece.ensures.front in
    rw split (Wrote-then _ _ _ _ _ _ _ _ _ (loop.invariant.appended, loop.invariant.count)
    (Wrote-cut _ _ _ _ _ _ _ _ _ c.in_err-put_all.ensures refl c.from_residual.ensures.1))

pub loop-at-preserved : goal.loop-at-preserved
loop-at-preserved g c =
    let loop = c.loop-at in
    let joined = piece_joined c.args.program.now.image c.piece-piece.result.now loop.at _ c.min-len.result
    loop.invariant.within (rw (← c.written-end.ensures.same) c.min-len.ensures) c.piece-piece.ensures.front in
    record {
      within = omega (arith, c.min-len.ensures, c.written-end.ensures.same, loop.invariant.within);
      count = c.in_ok-put_all.ensures.1 ∙ loop.invariant.count;
      appended = rw (← joined) (Appends-trans _ _ _ _ _ loop.invariant.appended c.in_ok-put_all.ensures.0);
    }
