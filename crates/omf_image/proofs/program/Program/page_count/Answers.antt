use Rattle.std.proofs.Common.{◌∙◌, ap, count_by}
use Rattle.omf_image.specs.Program.{Program}
use Rattle.omf_image.proofs.program.Program.page_count.Goals as goal

pub returns : goal.returns
returns g c = c.page_count.ensures ∙ ap (λ (p : Program). count_by (λ m. m) p.made) c.self.view_is
