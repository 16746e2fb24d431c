-- What names lead to, as it is held: for each alias a value by its name.
use Rattle.std.specs.Prelude.{◌≡◌, ℕ, ◌≤◌, List, find, is_some, map, Option, Some, None}
use Rattle.std.specs.Borrow.{Bor}
use Rattle.std.specs.Option.{option_map_or}
use Rattle.omf_library.specs.Said.{bytes_said}
use Rattle.omf_place.specs.Names.{agrees}
use Rattle.omf_place.specs.declared.names.Names.{Names}
use Rattle.omf_alias.specs.Meaning.{Renaming, replacement, meaning}
use Rattle.omf_alias.specs.Ordered.{IsByName}
use Rattle.omf_alias.specs.declared.named.NamedValue.{NamedValue}
use Rattle.omf_alias.specs.Told.{pair_at, told}
use Rattle.omf_alias.specs.inside.Steps.{steps}

-- a name with what it leads to
abbrev pub way_said : NamedValue (Bor (List ℕ)) → List ℕ × List ℕ
way_said v = (v.name.now, v.value.now)

-- what a name leads to
abbrev pub leads_by : Names → List (List ℕ × List ℕ) → (name : List ℕ) → List ℕ
leads_by names pairs name = option_map_or (λ p. p.1) (pair_at names pairs name) name

abbrev pub leads : Names → List (NamedValue (Bor (List ℕ))) → (name : List ℕ) → List ℕ
leads names ways name = leads_by names (map way_said ways) name

-- a way, twice as far
abbrev pub twice : Names → List (List ℕ × List ℕ) → List ℕ × List ℕ → List ℕ × List ℕ
twice names pairs p = (p.0, leads_by names pairs p.1)

-- ways are those of a renaming's aliases, so many steps far
pub record AreWays (r : Renaming) (most : ℕ) (ways : List (NamedValue (Bor (List ℕ)))) : Type 0 where
  pub far : ℕ
  pub long : most ≤ far
  pub lead : (name : List ℕ) → leads r.names ways name ≡ steps far r name
  pub there : (name : List ℕ) → is_some (pair_at r.names (map way_said ways) name) ≡ is_some (replacement r name)
  pub sorted : IsByName r.names ways

-- the end that a way has, by all of them
abbrev pub end_by : Names → List (List ℕ × List ℕ) → (name : List ℕ) → Option (List ℕ)
end_by names pairs name = option_map_or (λ p. None) (pair_at names pairs name) (Some name)

-- the ends tell what all names mean
pub record AreEnds (r : Renaming) (ends : List (NamedValue (Option (Bor (List ℕ))))) : Type 0 where
  pub means : (name : List ℕ) → told r.names ends name ≡ meaning r name
  pub sorted : IsByName r.names ends
