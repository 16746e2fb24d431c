-- Gathering what each item of a list says.
use Rattle.std.proofs.Common.{◌≡◌, List}
use Rattle.std.specs.declared.result.Result.{Result}
use Rattle.omf_library.specs.Members.{joined}
use Rattle.omf_plain.specs.declared.fault.Obstacle.{Obstacle}
use Rattle.omf_plain.specs.Step.{each_of}

-- what was gathered, and what the items say that are left, is what all say
abbrev pub Gathered : {A B : Type 0} → (A → Result (List B) Obstacle) → (all left : List A) → (found : List B) → Type 0
Gathered says all left found = each_of says all ≡ joined found (each_of says left)
