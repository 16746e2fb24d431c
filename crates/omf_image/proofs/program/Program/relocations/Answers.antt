use Rattle.std.proofs.Common.{◌∙◌, ap}
use Rattle.omf_image.specs.Program.{Program}
use Rattle.omf_image.proofs.program.Program.relocations.Goals as goal

pub returns : goal.returns
returns g c = c.deref.ensures.value ∙ ap (λ (p : Program). p.relocations) c.self.view_is
