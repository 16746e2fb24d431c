-- What names mean, as it is held: for each alias what its name means.
use Rattle.std.specs.Prelude.{ℕ, List, find, map, Option, Some}
use Rattle.std.specs.Borrow.{Bor}
use Rattle.std.specs.Option.{option_map_or}
use Rattle.omf_library.specs.Said.{bytes_said}
use Rattle.omf_place.specs.Names.{agrees}
use Rattle.omf_place.specs.declared.names.Names.{Names}
use Rattle.omf_alias.specs.declared.named.NamedValue.{NamedValue}

-- the value of the first pair whose name agrees
abbrev pub pair_at : {X : Type 0} → Names → List (List ℕ × X) → (name : List ℕ) → Option (List ℕ × X)
pair_at names pairs name = find (λ p. agrees names p.0 name) pairs

-- a name with what it means
abbrev pub end_said : NamedValue (Option (Bor (List ℕ))) → List ℕ × Option (List ℕ)
end_said v = (v.name.now, bytes_said v.value)

-- what a name means: itself, where it has no end
abbrev pub told_by : Names → List (List ℕ × Option (List ℕ)) → (name : List ℕ) → Option (List ℕ)
told_by names pairs name = option_map_or (λ p. p.1) (pair_at names pairs name) (Some name)

abbrev pub told : Names → List (NamedValue (Option (Bor (List ℕ)))) → (name : List ℕ) → Option (List ℕ)
told names ends name = told_by names (map end_said ends) name
