-- Names without regard to case.
use Rattle.std.specs.Prelude.{ℕ, List, map}
use Rattle.std.specs.Char.{to_ascii_lowercase}

-- 41H to 5AH become 61H to 7AH, and all other bytes stay
abbrev pub folded : List ℕ → List ℕ
folded name = map to_ascii_lowercase name
