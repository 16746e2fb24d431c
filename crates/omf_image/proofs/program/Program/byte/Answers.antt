use Rattle.std.proofs.Common.{◌∙◌, ◌<◌, ap, sym, subst, length, get_or}
use Rattle.omf_image.specs.Program.{Program}
use Rattle.omf_image.proofs.program.Program.byte.Goals as goal

pub byte-requires : goal.byte-requires
byte-requires g c = subst (λ (p : Program). c.args.address < length p.image) (sym c.self.view_is) c.requires

pub returns : goal.returns
returns g c = c.byte.ensures ∙ ap (λ (p : Program). get_or p.image c.args.address 0) c.self.view_is
