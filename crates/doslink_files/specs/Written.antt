-- Files that are written.
use Rattle.std.specs.Prelude.{◌≡◌, ℕ, List, [], Some}
use Rattle.std.specs.declared.option.Option.{Option}

-- A file of these bytes was put at the path, where the world tells what files that it creates hold: `blank` at first,
-- which is nothing. `Puts` is what the world promises of a file that was put at a path.
abbrev pub StandsAt : (blank : Option (List ℕ)) → (Puts : (path bytes : List ℕ) → Type 0) → (path bytes : List ℕ)
    → Type 0
StandsAt blank Puts path bytes = blank ≡ Some [] → Puts path bytes
