use Rattle.std.proofs.Common.{ap}
use Rattle.omf_image.specs.Program.{Program}
use Rattle.omf_image.proofs.program.Program.registers.Goals as goal

pub returns : goal.returns
returns g c = ap (λ (p : Program). p.registers) c.self.view_is
