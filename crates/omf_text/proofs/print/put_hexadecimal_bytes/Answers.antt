use Rattle.omf_frame.proofs.Told.{Wrote-failed}
use Rattle.omf_text.specs.Printing.{hexadecimal}
use Rattle.omf_text.proofs.PrintLemmas.{items_cut}
use Rattle.omf_text.proofs.print.put_hexadecimal_bytes.Goals as goal

pub returns-in_err-put_hexadecimal : goal.returns-in_err-put_hexadecimal
returns-in_err-put_hexadecimal g c =
    let loop = c.loop-byte in
    Wrote-failed _ _ _ _ _ _ _
    (items_cut (hexadecimal 2) c.args.bytes.now loop.byte-index 0 _ _ _ _ _ _ c.loop-byte-test.true
    loop.invariant.appended loop.invariant.count (rw c.from.ensures at c.in_err-put_hexadecimal.ensures))
    c.from_residual.ensures.1
