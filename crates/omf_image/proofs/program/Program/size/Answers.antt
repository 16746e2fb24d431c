use Rattle.std.proofs.Common.{◌∙◌, ap, subst, length, arith}
use Rattle.omf_image.specs.Program.{Program, IsProgram}
use Rattle.omf_image.proofs.program.Program.size.Goals as goal

pub overflow_cast-result : goal.overflow_cast-result
overflow_cast-result g c = omega (arith, c.size.ensures.small)

pub returns-clause-size : goal.returns-clause-size
returns-clause-size g c = c.size.ensures.size ∙ ap (λ (p : Program). length p.image) c.self.view_is

pub returns-clause-limits : goal.returns-clause-limits
returns-clause-limits g c = subst IsProgram c.self.view_is c.self.invariant
