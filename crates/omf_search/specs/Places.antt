-- Places in lists.
use Rattle.std.specs.Prelude.{ℕ, ◌+◌, Bool, List, [], ◌∷◌, Option, Some, None, if◌then◌else◌}

-- the place of the first element that passes a test, counted from a number
abbrev pub place_from : {X : Type 0} → ℕ → (X → Bool) → List X → Option ℕ
place_from n test [] = None
place_from n test (x ∷ xs) = if test x then Some n else place_from (n + 1) test xs
