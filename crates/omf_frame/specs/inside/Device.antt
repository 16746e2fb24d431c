-- Numbers that are bytes.
use Rattle.std.specs.Prelude.{ℕ, ◌<◌, List, slice_index}

-- past its end a list reads as 0
abbrev pub AreBytes : List ℕ → Type 0
AreBytes bytes = (i : ℕ) → slice_index bytes i < 256
