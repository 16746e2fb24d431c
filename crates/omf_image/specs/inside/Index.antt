-- The positions of repeated data, by the place at which each was stored.
use Rattle.std.specs.Prelude.{◌≡◌, ℕ, ◌+◌, ◌<◌, ◌≤◌, List, [], ◌∷◌, flat_map, length, get_or}
use Rattle.std.specs.List.{range_with_len}
use Rattle.omf_image.specs.declared.index.Index.{Index}
use Rattle.omf_image.specs.Records.{hits}

-- these positions stand from at on, each named by the one before; past the last of all there is none
abbrev pub Chain : (nexts : List ℕ) → (at : ℕ) → List ℕ → Type 0
Chain nexts at [] = at ≡ length nexts
Chain nexts at (i ∷ is) = (at ≡ i) × (i < length nexts) × Chain nexts (get_or nexts i 0) is

-- each next position is greater
abbrev pub Rises : List ℕ → Type 0
Rises nexts = (k : ℕ) → k < length nexts → k < get_or nexts k 0

-- from the head of each place on stand its positions
pub record IsLinked (places : List ℕ) (end : ℕ) (heads nexts : List ℕ) : Type 0 where
  pub count : length heads ≡ end
  pub rises : Rises nexts
  pub chains : (o : ℕ) → o < end → Chain nexts (get_or heads o 0) (hits o places)

-- the positions of the places before o, place by place
abbrev pub hits_before : List ℕ → ℕ → List ℕ
hits_before places o = flat_map (λ p. hits p places) (range_with_len 0 o)

-- the positions of each place stand from its start to that of the next place
pub record IsIndex {A : Type 0} (places : List ℕ) (index : Index A) : Type 0 where
  pub starts : (o : ℕ) → o < length index.starts.items → get_or index.starts.items o 0 ≡ length (hits_before places o)
  pub positions : (o : ℕ) → length index.starts.items ≡ o + 1 → index.positions.items ≡ hits_before places o
  pub past : (o : ℕ) → length index.starts.items ≤ o + 1 → hits o places ≡ []
