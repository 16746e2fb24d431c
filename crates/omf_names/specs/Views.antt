-- Names and aliases as they are handed over.
use Rattle.std.specs.Prelude.{ℕ, List, map}
use Rattle.std.specs.Borrow.{Bor}

-- the bytes of names
abbrev pub names_said : List (Bor (List ℕ)) → List (List ℕ)
names_said names = map (λ n. n.now) names

-- the bytes of aliases
abbrev pub aliases_said : List (Bor (List ℕ) × Bor (List ℕ)) → List (List ℕ × List ℕ)
aliases_said aliases = map (λ a. (a.0.now, a.1.now)) aliases
