use Rattle.std.proofs.Common.{◌≡◌, ℕ, List, take}
use Rattle.omf_place.specs.Parts.{sites}
use Rattle.omf_place.specs.Tables.{grpdefs}
use Rattle.omf_place.specs.inside.Groups.{entry_in}
use Rattle.omf_place.specs.inside.Named.{named_slices, value_of}
use Rattle.omf_place.specs.inside.OfProgram.{of_program}
use Rattle.omf_place.proofs.groups.Groups.collect.Given as goal

abbrev pub invariant-loop-grpdef : goal.invariant-loop-grpdef
invariant-loop-grpdef g l =
    (q : List ℕ)
    → value_of (named_slices l.by_name.entries) q
    ≡ of_program (λ ms A. entry_in (sites ms) A (take l.grpdef-index (grpdefs ms))) l.program q
