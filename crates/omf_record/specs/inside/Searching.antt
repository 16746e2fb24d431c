-- Looking for the content that holds stored places.
use Rattle.std.specs.Prelude.{ℕ, ◌≡◌, ◌<◌, ◌≤◌, List}
use Rattle.omf_record.specs.declared.content.Found.{Found}
use Rattle.omf_record.specs.declared.content.Found.TheVariants.{Inside, Outside, Beyond}
use Rattle.omf_record.specs.Expansion.{LiesInOne}

-- what is found of so many places from one on in blocks that end at a place, and have these contents
abbrev pub Finds : (at width end : ℕ) → List (ℕ × ℕ) → Found → Type 0
Finds at width end contents Inside = LiesInOne at width contents
Finds at width end contents Outside = (LiesInOne at width contents → ⊥) × (at < end)
Finds at width end contents (Beyond place) = (LiesInOne at width contents → ⊥) × (place ≡ end) × (end ≤ at)
