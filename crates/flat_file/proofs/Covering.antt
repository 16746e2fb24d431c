-- The first address that data covers and the end of the written part lie around all that data covers.
use Rattle.std.proofs.Common.{◌≡◌, ℕ, ◌+◌, ◌≤◌, ◌<◌, eqb, eq-eqb, cond, fold, min, max, true, List, []}
use Rattle.std.proofs.Common.{◌∷◌}
use Rattle.std.proofs.Common.{map, length, inl, inr, arith, sym}
use Rattle.std.specs.Prelude.{nat_le, nat_lt}
use Rattle.std.specs.List.{list_any}
use Rattle.std.proofs.lemmas.Bool.{cond-true, cond-false, ne_eqb, true≢false, and_parts, or_cases, leb-true, ltb-true}
use Rattle.omf_place.specs.Layout.{Layout}
use Rattle.omf_image.specs.Records.{entry_start, entry_end, bytes_of}
use Rattle.omf_image.specs.inside.Entries.{DataEntry}
use Rattle.omf_image.proofs.Everywhere.{end_some}
use Rattle.flat_file.specs.Covered.{covers, entry_first, memory_len}

-- the first address of data, by its length
pub first_none : (s n : ℕ) → n ≡ 0 → cond (eqb n 0) memory_len s ≡ memory_len
first_none s n h = cond-true (eqb n 0) memory_len s (eq-eqb n 0 h)

pub first_some : (s n : ℕ) → 0 < n → cond (eqb n 0) memory_len s ≡ s
first_some s n h = cond-false (eqb n 0) memory_len s (ne_eqb n 0 (λ x. omega (arith, h, x)))

pub least_begun : (n : ℕ) (xs : List ℕ) → fold min n xs ≤ n
least_begun n [] = omega arith
least_begun n (x ∷ xs) = omega (arith, least_begun (min n x) xs)

most_begun : (n : ℕ) (xs : List ℕ) → n ≤ fold max n xs
most_begun n [] = omega arith
most_begun n (x ∷ xs) = omega (arith, most_begun (max n x) xs)

pub around : (layout : Layout) (a n m : ℕ) (es : List DataEntry) → list_any (covers layout a) es ≡ true
    → (fold min n (map (entry_first layout) es) ≤ a) × (a < fold max m (map (entry_end layout) es))
around layout a n m [] h = absurd (true≢false (sym h))
around layout a n m (e ∷ es) h =
    let least = least_begun (min n (entry_first layout e)) (map (entry_first layout) es) in
    let most = most_begun (max m (entry_end layout e)) (map (entry_end layout) es) in
    elim (or_cases (covers layout a e) (list_any (covers layout a) es) h) [
      | inl here ↦
          let start = entry_start layout e in
          let len = length (bytes_of e.item) in
          let both = and_parts (nat_le start a) (nat_lt a (start + len)) here in
          let low : start ≤ a = leb-true start a both.0 in
          let high : a < start + len = ltb-true a (start + len) both.1 in
          let some : 0 < len = omega (arith, low, high) in
          let begin : entry_first layout e ≡ start = first_some start len some in
          let end : entry_end layout e ≡ start + len = end_some start len some in
          (omega (arith, least, low, begin), omega (arith, most, high, end))
      | inr later ↦ around layout a (min n (entry_first layout e)) (max m (entry_end layout e)) es later
    ]
