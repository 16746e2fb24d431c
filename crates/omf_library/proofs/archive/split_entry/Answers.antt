use Rattle.std.proofs.Common.{sym, ap, length, take, ◌∙◌, arith}
use Rattle.std.proofs.lemmas.List.{take_rest, length-take}
use Rattle.omf_library.specs.Archive.{decimal}
use Rattle.omf_library.proofs.Told.{entry_long, content_is}
use Rattle.omf_library.proofs.archive.split_entry.Goals as goal

pub returns-then-content-size-clause-said : goal.returns-then-content-size-clause-said
returns-then-content-size-clause-said c =
    let bytes = c.args.bytes.now in
    let rest = ap length (take_rest bytes 60) in
    sym (entry_long bytes c.in-Some.size (omega arith) (omega arith) (omega arith)
    (ap decimal (sym c.without_spaces.ensures.value) ∙ sym c.in-Some.ensures)
    (omega (arith, rest, c.if-content-size.true)))

pub returns-clause-content : goal.returns-clause-content
returns-clause-content c =
    let bytes = c.args.bytes.now in
    let rest = ap length (take_rest bytes 60) in
    content_is bytes c.in-Some.size _ (omega arith) (omega (arith, rest, c.if-content-size.false))
    (omega (arith, c.without_spaces-2.ensures.shorter, length-take 16 bytes))
    (ap (take c.in-Some.size) (take_rest bytes 60))
