use Rattle.std.proofs.Common.{refl}
use Rattle.omf_commands.proofs.linking.Options.ignoring_case.Goals as goal

pub returns : goal.returns
returns c = refl
