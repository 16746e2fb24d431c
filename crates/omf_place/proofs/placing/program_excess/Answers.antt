use Rattle.std.proofs.Common.{ap, find, nat_lt, ◌∙◌}
use Rattle.omf_place.specs.Excess.{group_excesses}
use Rattle.omf_place.specs.inside.OfProgram.{of_program}
use Rattle.omf_place.proofs.placing.program_excess.Goals as goal

pub returns : goal.returns
returns g c = c.first_excess.ensures ∙ ap (λ p. find (nat_lt 0) (of_program group_excesses p)) c.in_ok-groups.ensures
