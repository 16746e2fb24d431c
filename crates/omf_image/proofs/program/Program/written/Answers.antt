use Rattle.std.proofs.Common.{◌≤◌, ap, subst, length}
use Rattle.omf_image.specs.Program.{Program}
use Rattle.omf_image.proofs.program.Program.written.Goals as goal

pub returns-clause-same : goal.returns-clause-same
returns-clause-same g c = ap (λ (p : Program). p.written) c.self.view_is

pub returns-clause-within : goal.returns-clause-within
returns-clause-within g c =
    subst (λ (p : Program). c.self.inside.written ≤ length p.image) c.self.view_is c.self.invariant.written
