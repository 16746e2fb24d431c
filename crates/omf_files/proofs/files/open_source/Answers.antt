use Rattle.std.proofs.Common.{refl}
use Rattle.omf_files.proofs.files.open_source.Goals as goal

pub returns-clause-waiting : goal.returns-clause-waiting
returns-clause-waiting g c = refl
