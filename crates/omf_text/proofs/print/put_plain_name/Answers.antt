use Rattle.omf_frame.proofs.Told.{Wrote-failed}
use Rattle.omf_text.specs.Printing.{name_byte}
use Rattle.omf_text.proofs.PrintLemmas.{items_cut}
use Rattle.omf_text.proofs.print.put_plain_name.Goals as goal

pub returns-in_err-put_name_byte : goal.returns-in_err-put_name_byte
returns-in_err-put_name_byte g c =
    let loop = c.loop-byte in
    Wrote-failed _ _ _ _ _ _ _
    (items_cut name_byte c.args.name.now loop.byte-index _ _ _ _ _ _ _ c.loop-byte-test.true loop.invariant.appended
    loop.invariant.count c.in_err-put_name_byte.ensures) c.from_residual.ensures.1
