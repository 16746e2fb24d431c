-- Aliases one behind the other, as steps that stay where no alias is.
use Rattle.std.specs.Prelude.{ℕ, zero, suc, List, Some, None}
use Rattle.std.specs.declared.option.Option.{Option}
use Rattle.omf_alias.specs.Meaning.{Renaming, replacement}

-- the name that follows one, by what it stands for
abbrev pub stepped : (name : List ℕ) → Option (List ℕ) → List ℕ
stepped name None = name
stepped name (Some next) = next

abbrev pub step : Renaming → (name : List ℕ) → List ℕ
step r name = stepped name (replacement r name)

-- the name after so many steps
abbrev pub steps : ℕ → Renaming → (name : List ℕ) → List ℕ
steps zero r name = name
steps (suc n) r name = steps n r (step r name)

-- a name where it is an end, by what it stands for
abbrev pub ended_by : (name : List ℕ) → Option (List ℕ) → Option (List ℕ)
ended_by name None = Some name
ended_by name (Some next) = None

abbrev pub ended : Renaming → (name : List ℕ) → Option (List ℕ)
ended r name = ended_by name (replacement r name)
