-- The values of a table by their names.
use Rattle.std.specs.Prelude.{ℕ, Bool, List, map, find, Option, option_map}
use Rattle.std.specs.Char.{to_ascii_lowercase}
use Rattle.std.specs.Borrow.{Bor}
use Rattle.std.specs.Str.{bytes_eq}

-- 41H to 5AH become 61H to 7AH, and all other bytes stay
abbrev pub folded : List ℕ → List ℕ
folded name = map to_ascii_lowercase name

-- the value of the first entry whose name passes a test
abbrev pub value_where : {V : Type 0} → (List ℕ → Bool) → List (List ℕ × V) → Option V
value_where test es = option_map (λ e. e.1) (find (λ e. test e.0) es)

-- the value at a name
abbrev pub value_of : {V : Type 0} → List (List ℕ × V) → List ℕ → Option V
value_of es name = value_where (bytes_eq name) es

-- entries whose keys are slices, by their names
abbrev pub named_slices : {V : Type 0} → List (Bor (List ℕ) × V) → List (List ℕ × V)
named_slices es = map (λ e. (e.0.now, e.1)) es
