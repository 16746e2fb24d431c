-- Sites that stand at their positions.
use Rattle.std.specs.Prelude.{◌≡◌, ℕ, ◌+◌, List, [], ◌∷◌}
use Rattle.omf_place.specs.Parts.{Site}

-- each site has its place in the list as its position
abbrev pub IsNumberedFrom : ℕ → List Site → Type 0
IsNumberedFrom p [] = Unit {0}
IsNumberedFrom p (a ∷ rest) = (a.position ≡ p) × IsNumberedFrom (p + 1) rest
