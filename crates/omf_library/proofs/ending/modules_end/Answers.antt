use Rattle.std.proofs.Common.{sym, ◌∙◌}
use Rattle.omf_library.proofs.Lasting.{library_ends, object_ends}
use Rattle.omf_library.proofs.ending.modules_end.Goals as goal

pub returns-in-Object-clause-there : goal.returns-in-Object-clause-there
returns-in-Object-clause-there c =
    object_ends c.args.bytes.now c.object_end.result (sym c.file_kind.ensures ∙ c.in-Object.is) c.object_end.ensures

pub returns-in-Library-clause-there : goal.returns-in-Library-clause-there
returns-in-Library-clause-there c =
    library_ends c.args.bytes.now c.library_end.result (sym c.file_kind.ensures ∙ c.in-Library.is) c.library_end.ensures
