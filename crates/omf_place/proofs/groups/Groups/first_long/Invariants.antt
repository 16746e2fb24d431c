use Rattle.std.proofs.Common.{◌≡◌, take, find, None}
use Rattle.omf_place.specs.Tables.{Grpdef, grpdefs}
use Rattle.omf_place.specs.inside.OfProgram.{is_long_group, of_program}
use Rattle.omf_place.proofs.groups.Groups.first_long.Given as goal

abbrev pub invariant-loop-grpdef : goal.invariant-loop-grpdef
invariant-loop-grpdef g l =
    of_program (λ ms A. find (λ (x : Grpdef). is_long_group ms A x.name) (take l.grpdef-index (grpdefs ms)))
    l.self.program.now ≡ None
