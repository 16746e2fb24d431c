-- The canonical texts of indexes, words and names.
use Rattle.std.specs.Prelude.{ℕ, List, ◌∷◌, length}
-- the shortest form of an index, and a word
pub use Rattle.omf_frame.specs.Primitives.{index, word}

-- a length byte and the name
abbrev pub name : List ℕ → List ℕ
name s = length s ∷ s
