-- How the code finds which segments join a group.
use Rattle.std.specs.Prelude.{ℕ, Bool, false, List, [], ◌∷◌, slice_set}

-- the marks at these numbers taken away
abbrev pub unmarked : List ℕ → List Bool → List Bool
unmarked [] marks = marks
unmarked (number ∷ numbers) marks = unmarked numbers (slice_set marks number false)
