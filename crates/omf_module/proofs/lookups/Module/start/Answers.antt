use Rattle.std.proofs.Common.{ap}
use Rattle.omf_module.specs.Module.{Module}
use Rattle.omf_module.proofs.lookups.Module.start.Goals as goal

pub returns : goal.returns
returns g c = ap (λ (m : Module). m.start) c.self.view_is
