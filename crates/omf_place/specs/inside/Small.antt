-- Addresses to which lengths and alignments may be added.
use Rattle.std.specs.Prelude.{ℕ, ◌<◌, ◌^◌, List, slice_index}

-- each is less than 2 to the 127th
abbrev pub IsSmall : List ℕ → Type 0
IsSmall addresses = (k : ℕ) → slice_index addresses k < 2 ^ 127
