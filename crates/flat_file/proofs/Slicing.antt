-- Parts of a list, one after the other.
use Rattle.std.proofs.Common.{slice_range, ◌≡◌, ℕ, ◌+◌, ◌-◌, ◌≤◌, ◌<◌, min, max, List, [], ◌++◌, take, drop, length}
use Rattle.std.proofs.Common.{get_or}
use Rattle.std.proofs.Common.{ap, ◌∙◌, sym, arith}
use Rattle.std.proofs.lemmas.List.{take-take, drop-drop, ext_get_or, get_or-take, get_or-drop, length-take, length-drop}
use Rattle.std.proofs.lemmas.Slice.{between_is}
use lib.Seq.{take-add}

pub joined : (xs : List ℕ) (a b c : ℕ) → a ≤ b → b ≤ c
    → slice_range xs a b ++ slice_range xs b c ≡ slice_range xs a c
joined xs a b c low high =
    let place : a + (b - a) ≡ b = omega arith in
    let count : b - a + (c - b) ≡ c - a = omega arith in
    ap (λ (l : List ℕ). slice_range xs a b ++ take (c - b) l)
    (ap (λ (n : ℕ). drop n xs) (sym place) ∙ sym (drop-drop (b - a) a xs))
    ∙ sym (take-add (b - a) (c - b) (drop a xs)) ∙ ap (λ (n : ℕ). take n (drop a xs)) count

-- three parts are the whole
pub parted : (xs : List ℕ) (a b c d : ℕ) → a ≤ b → b ≤ c → c ≤ d
    → slice_range xs a d ≡ slice_range xs a b ++ (slice_range xs b c ++ slice_range xs c d)
parted xs a b c d i j k =
    sym (ap (λ (l : List ℕ). slice_range xs a b ++ l) (joined xs b c d j k) ∙ joined xs a b d i (omega arith))

-- what of a piece of a list lies before an end
pub piece_is : (xs piece : List ℕ) (i end len : ℕ) → len ≡ min (length piece) (end - i)
    → piece ≡ take (length piece) (drop i xs) → take len piece ≡ slice_range xs i (i + len)
piece_is xs piece i end len least is =
    let count : len ≡ i + len - i = omega arith in
    ap (take len) is ∙ take-take len (length piece) (drop i xs) (omega (arith, least))
    ∙ ap (λ (n : ℕ). take n (drop i xs)) count

-- an end before the begin is the begin
pub capped : (xs : List ℕ) (a b : ℕ) → slice_range xs a b ≡ slice_range xs a (max a b)
capped xs a b = let count : b - a ≡ max a b - a = omega arith in ap (λ (n : ℕ). take n (drop a xs)) count

-- parts of two lists are the same where their elements are
pub same_part : (xs ys : List ℕ) (a b : ℕ) → length xs ≡ length ys
    → ((i : ℕ) → a ≤ i → i < b → get_or xs i 0 ≡ get_or ys i 0) → slice_range xs a b ≡ slice_range ys a b
same_part xs ys a b long each =
    let n : length (slice_range xs a b) ≡ min (b - a) (length xs - a) =
    (let p = length-take (b - a) (drop a xs) in let q = length-drop a xs in omega (arith, p, q)) in
    let m : length (slice_range ys a b) ≡ min (b - a) (length ys - a) =
    (let p = length-take (b - a) (drop a ys) in let q = length-drop a ys in omega (arith, p, q)) in
    ext_get_or 0 (slice_range xs a b) (slice_range ys a b) (omega (arith, n, m, long))
    (λ i l.
    let inner : i < b - a = omega (arith, n, l) in
    get_or-take (b - a) (drop a xs) i 0 inner ∙ get_or-drop a xs i 0 ∙ each (a + i) (omega arith) (omega arith)
    ∙ sym (get_or-take (b - a) (drop a ys) i 0 inner ∙ get_or-drop a ys i 0))

-- a part without its first bytes
pub later : (xs : List ℕ) (a b k : ℕ) → drop k (slice_range xs a b) ≡ slice_range xs (a + k) b
later xs a b k =
    ap (drop k) (between_is xs a b) ∙ drop-drop k a (take b xs) ∙ sym (between_is xs (a + k) b)

-- a part that has nothing
pub nothing : (xs : List ℕ) (a b : ℕ) → b ≤ a → slice_range xs a b ≡ []
nothing xs a b h = let none : b - a ≡ 0 = omega arith in ap (λ (n : ℕ). take n (drop a xs)) none

-- a piece that is put behind a part, and the rest
module _ (xs piece : List ℕ) (from at end len : ℕ) (above : from ≤ at) (below : at ≤ end)
    (least : len ≡ min (length piece) (end - at)) (is : piece ≡ take (length piece) (drop at xs)) where
  pub piece_joined : slice_range xs from at ++ take len piece ≡ slice_range xs from (at + len)
  piece_joined =
      ap (λ (l : List ℕ). slice_range xs from at ++ l) (piece_is xs piece at end len least is)
      ∙ joined xs from at (at + len) above (omega arith)

  pub piece_split : slice_range xs from end
      ≡ slice_range xs from at ++ (take len piece ++ slice_range xs (at + len) end)
  piece_split =
      parted xs from at (at + len) end above (omega arith) (omega (arith, least, below))
      ∙ ap (λ (l : List ℕ). slice_range xs from at ++ (l ++ slice_range xs (at + len) end))
      (sym (piece_is xs piece at end len least is))
