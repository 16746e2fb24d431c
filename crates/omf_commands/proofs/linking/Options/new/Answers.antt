use Rattle.std.proofs.Common.{refl}
use Rattle.omf_commands.proofs.linking.Options.new.Goals as goal

pub returns : goal.returns
returns c = refl
