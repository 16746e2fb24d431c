use Rattle.std.proofs.Common.{refl}
use Rattle.omf_files.proofs.files.CreatedFile.new.Goals as goal

pub returns-clause-untouched : goal.returns-clause-untouched
returns-clause-untouched g c = refl
