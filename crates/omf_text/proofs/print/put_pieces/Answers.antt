use Rattle.std.proofs.Common.{◌∙◌, ◌+◌, ap}
use Rattle.omf_frame.proofs.Told.{Wrote-failed}
use Rattle.omf_text.proofs.PrintLemmas.{Wrote-held, piece_cut, piece_held}
use Rattle.omf_text.proofs.print.put_pieces.Goals as goal

pub returns-in_err-put : goal.returns-in_err-put
returns-in_err-put g c =
    let loop = c.loop-piece in
    let cut =
    piece_cut (λ piece. piece.now) c.args.pieces.now loop.piece-index _ loop.line _ _ _ c.loop-piece-test.true
    loop.invariant.appended c.in_err-put.ensures.0 in
    Wrote-failed _ _ _ _ _ _ _ (cut, c.in_err-put.ensures.1 ∙ ap (λ k. k + 1) loop.invariant.count)
    c.from_residual.ensures.1

pub loop-piece-preserved : goal.loop-piece-preserved
loop-piece-preserved g c =
    let loop = c.loop-piece in
    record {
      count = c.in_ok-put.ensures.1 ∙ loop.invariant.count;
      appended =
          piece_held (λ piece. piece.now) c.args.pieces.now loop.piece-index _ loop.line c.put.new.self _ _ _
          c.loop-piece-test.true
          loop.invariant.appended c.in_ok-put.ensures.0;
    }

pub returns : goal.returns
returns g c =
    let loop = c.loop-piece in
    Wrote-held (λ piece. piece.now) c.args.pieces.now loop.piece-index loop.line _ _ _ _ _ _ _ c.loop-piece-test.false
    loop.invariant.appended loop.invariant.count c.put_held.ensures.written
