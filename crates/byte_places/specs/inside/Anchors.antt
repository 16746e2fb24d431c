-- Two bytes of a pattern that are known, one behind the other.
use Rattle.std.specs.Prelude.{◌≡◌, ℕ, ◌+◌, ◌<◌, List, Some, None, slice_index_or}
use Rattle.std.specs.declared.option.Option.{Option}
use Rattle.byte_places.specs.Chains.{word_of}

-- two bytes of a pattern one behind the other, and their word
pub record IsAnchor (pattern : List (Option ℕ)) (at word : ℕ) : Type 0 where
  pub low : ℕ
  pub high : ℕ
  pub low_is : slice_index_or pattern at None ≡ Some low
  pub high_is : slice_index_or pattern (at + 1) None ≡ Some high
  pub word_is : word ≡ word_of low high
  pub small : word < 65536
