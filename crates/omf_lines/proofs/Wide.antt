-- Lines with offsets of four bytes.
use Rattle.std.proofs.Common.{◌≡◌, ℕ, Bool, true, false, cond, List, [], ◌∷◌, ◌++◌, filter, map, refl}
use Rattle.omf_lines.specs.Lines.{is_in_16_bits}
use Rattle.omf_lines.specs.declared.line.Line.{Line}

first-by : (of : ℕ × ℕ → Line) (pair : ℕ × ℕ) (rest : List (ℕ × ℕ)) (kept : Bool)
    → map of (cond kept (pair ∷ rest) rest) ≡ map of (cond kept (pair ∷ []) []) ++ map of rest
first-by of pair rest true = refl
first-by of pair rest false = refl

-- the first of some line numbers, and the others
pub first-wide : (of : ℕ × ℕ → Line) (pair : ℕ × ℕ) (rest : List (ℕ × ℕ))
    → map of (filter is_in_16_bits (pair ∷ rest))
    ≡ map of (filter is_in_16_bits (pair ∷ [])) ++ map of (filter is_in_16_bits rest)
first-wide of pair rest = first-by of pair (filter is_in_16_bits rest) (is_in_16_bits pair)
