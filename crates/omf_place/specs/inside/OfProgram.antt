-- What the definitions say of a program that the code holds.
use Rattle.std.specs.Prelude.{ℕ, ◌/◌, Bool, false, List}
use Rattle.std.specs.Option.{option_map_or}
use Rattle.omf_module.specs.Module.{Module}
use Rattle.omf_place.specs.declared.inputs.PlacedProgram.{PlacedProgram}
use Rattle.omf_place.specs.Faults.{is_too_long}
use Rattle.omf_place.specs.Tables.{group_span}
use Rattle.omf_place.specs.inside.Program.{ArePlaced, addresses_of}

-- a definition over a program and addresses, at those that the code holds
abbrev pub of_program {ℓ} : {A : Type 0} {X : Type ℓ} → (List Module → (addresses : List ℕ) → X) → PlacedProgram A → X
of_program say p = say p.modules.now (addresses_of p.stands.now)

-- a group, by its name, ends more than 65,536 above its frame
abbrev pub is_long_group : List Module → (addresses : List ℕ) → List ℕ → Bool
is_long_group program addresses name =
    option_map_or (λ s. is_too_long (s.0 / 16) s.1) (group_span program addresses name) false

-- its inputs are those of its modules, and each segment stands where the stands say
abbrev pub IsPlacedProgram : {A : Type 0} → PlacedProgram A → Type 0
IsPlacedProgram p = of_program ArePlaced p p.inputs.items
