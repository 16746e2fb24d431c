use Rattle.std.proofs.Common.{arith, refl, ◌∙◌, ◌≡◌, max}
use Rattle.omf_frame.proofs.Told.{Appends-trans, Wrote-cut, Wrote-then}
use Rattle.flat_file.proofs.Slicing.{capped, piece_joined, piece_split}
use Rattle.flat_file.proofs.bin.put_image.Goals as goal

pub returns-in_err-put_all : goal.returns-in_err-put_all
returns-in_err-put_all g c =
    let loop = c.loop-at in
    let split = piece_split c.args.program.now.image c.piece-piece.result.now c.args.from loop.at c.args.end
    c.min-len.result loop.invariant.above (omega arith) c.min-len.ensures c.piece-piece.ensures.front in
    rw split (Wrote-then _ _ _ _ _ _ _ _ _ (loop.invariant.appended, loop.invariant.count)
    (Wrote-cut _ _ _ _ _ _ _ _ _ c.in_err-put_all.ensures refl c.from_residual.ensures.1))

pub loop-at-preserved : goal.loop-at-preserved
loop-at-preserved g c =
    let loop = c.loop-at in
    let joined = piece_joined c.args.program.now.image c.piece-piece.result.now c.args.from loop.at c.args.end
    c.min-len.result loop.invariant.above (omega arith) c.min-len.ensures c.piece-piece.ensures.front in
    record {
      above = omega (arith, loop.invariant.above);
      within = omega (arith, c.min-len.ensures);
      count = c.in_ok-put_all.ensures.1 ∙ loop.invariant.count;
      appended = rw (← joined) (Appends-trans _ _ _ _ _ loop.invariant.appended c.in_ok-put_all.ensures.0);
    }

pub returns : goal.returns
returns g c =
    let loop = c.loop-at in
    let end : max c.args.from c.args.end ≡ loop.at = omega (arith, loop.invariant.above, loop.invariant.within) in
    rw (capped c.args.program.now.image c.args.from c.args.end, end)
    (loop.invariant.appended, loop.invariant.count)
