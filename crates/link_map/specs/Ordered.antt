-- A list in order.
use Rattle.std.specs.Prelude.{Bool, List, [], ◌∷◌, if◌then◌else◌}

-- an item in front of the first that isn't less
abbrev pub put_in : {X : Type 0} → (X → X → Bool) → X → List X → List X
put_in less x [] = x ∷ []
put_in less x (y ∷ ys) = if less y x then y ∷ put_in less x ys else x ∷ y ∷ ys

-- the items in order: none is less than one before it, and those of which neither is less stand as they came
abbrev pub ordered : {X : Type 0} → (X → X → Bool) → List X → List X
ordered less [] = []
ordered less (x ∷ xs) = put_in less x (ordered less xs)
