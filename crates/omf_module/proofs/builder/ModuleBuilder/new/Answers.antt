use Rattle.std.proofs.Common.{refl}
use Rattle.omf_module.proofs.builder.ModuleBuilder.new.Goals as goal

pub returns : goal.returns
returns g c = record { keeps = rw c.new.ensures refl; taken = tt; sound = refl }
