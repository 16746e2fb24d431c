use Rattle.std.proofs.Common.{rules}
use Rattle.omf_library.specs.Files.{file_kind}
use Rattle.omf_library.proofs.files.file_kind.Goals as goal

pub returns-else-starts_with : goal.returns-else-starts_with
unfolding file_kind
returns-else-starts_with c = search rules
