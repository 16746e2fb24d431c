-- A place that passes a test, as a list.
use Rattle.std.specs.Prelude.{ℕ, ◌-◌, Bool, ◌&&◌, nat_le, if◌then◌else◌, List, [], ◌∷◌}

-- the place alone, where it passes
abbrev pub found_at : (test : ℕ → Bool) (place : ℕ) → List ℕ
found_at test place = if test place then place ∷ [] else []

-- the place that is so many bytes before another one, where there is one
abbrev pub found_before : (test : ℕ → Bool) (at offset : ℕ) → List ℕ
found_before test at offset = if nat_le offset at && test (at - offset) then (at - offset) ∷ [] else []
