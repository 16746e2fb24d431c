use Rattle.std.proofs.Common.{refl}
use Rattle.omf_frame.proofs.Told.{Wrote-cut, Wrote-then}
use Rattle.mz.proofs.Parts.{file_parts}
use Rattle.mz.proofs.writing.put_file.Goals as goal

pub returns-in_err-put_all-clause-written : goal.returns-in_err-put_all-clause-written
returns-in_err-put_all-clause-written g c =
    let parts = file_parts c.args.program.now _ _ _ _ _ c.header_of-header.ensures.words c.to_bytes.ensures
    c.header_len.ensures c.from.ensures refl in
    Wrote-cut _ _ _ _ _ _ _ _ _ c.in_err-put_all.ensures parts c.from_residual.ensures.1

pub returns-in_err-put_table-clause-written : goal.returns-in_err-put_table-clause-written
returns-in_err-put_table-clause-written g c =
    let parts = file_parts c.args.program.now _ _ _ _ _ c.header_of-header.ensures.words c.to_bytes.ensures
    c.header_len.ensures c.from.ensures c.relocations.ensures in
    rw parts (Wrote-then _ _ _ _ _ _ _ _ _ c.in_ok-put_all.ensures
    (Wrote-cut _ _ _ _ _ _ _ _ _ c.in_err-put_table.ensures refl c.from_residual-in_err-put_table.ensures.1))

pub returns-in_err-put_all-2-clause-written : goal.returns-in_err-put_all-2-clause-written
returns-in_err-put_all-2-clause-written g c =
    let parts = file_parts c.args.program.now _ _ _ _ _ c.header_of-header.ensures.words c.to_bytes.ensures
    c.header_len.ensures c.from.ensures c.relocations.ensures in
    rw parts (Wrote-then _ _ _ _ _ _ _ _ _ c.in_ok-put_all.ensures
    (Wrote-then _ _ _ _ _ _ _ _ _ c.in_ok-put_table.ensures
    (Wrote-cut _ _ _ _ _ _ _ _ _ c.in_err-put_all-2.ensures refl c.from_residual-in_err-put_all-2.ensures.1)))

pub returns-clause-written : goal.returns-clause-written
returns-clause-written g c =
    let parts = file_parts c.args.program.now _ _ _ _ _ c.header_of-header.ensures.words c.to_bytes.ensures
    c.header_len.ensures c.from.ensures c.relocations.ensures in
    rw parts (Wrote-then _ _ _ _ _ _ _ _ _ c.in_ok-put_all.ensures
    (Wrote-then _ _ _ _ _ _ _ _ _ c.in_ok-put_table.ensures
    (Wrote-then _ _ _ _ _ _ _ _ _ c.in_ok-put_all-2.ensures c.put_image.ensures)))
