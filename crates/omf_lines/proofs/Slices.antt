-- Those elements of a list that pass a test, where they stand together.
use Rattle.std.proofs.Common.{◌≡◌, ℕ, suc, ◌+◌, ◌-◌, ◌<◌, ◌≤◌, Bool, true, false, cond, List, [], ◌∷◌, ◌++◌}
use Rattle.std.proofs.Common.{length, take, drop, get_or, filter, ltb, leb, sym, ap, ap₂, refl, ◌∙◌, arith}
use Rattle.std.proofs.Common.{append-nil, take-append-drop, get_or-take, get_or-drop, length-drop, length-take-le}
use Rattle.std.proofs.Common.{ltb-true, ltb-false, leb-true, leb-false, eq-eqb, ne_eqb}
use Rattle.std.specs.List.{AllWithin}
use Rattle.std.specs.List.Sorted.{IsPartitionPoint}
use Rattle.std.proofs.lemmas.List.Elements.{filter-append}
use Rattle.omf_lines.specs.Lines.{is_of}
use Rattle.omf_lines.specs.declared.line.Line.{Line}

module _ {X : Type 0} (p : X → Bool) where
  filter-none : (xs : List X) → AllWithin (λ x. p x ≡ false) xs 0 (length xs) → filter p xs ≡ []
  filter-none [] h = refl
  filter-none (x ∷ xs) h =
      ap (λ b. cond b (x ∷ filter p xs) (filter p xs)) (h 0 x (omega arith) (omega arith))
      ∙ filter-none xs (λ k d low high. h (suc k) d (omega arith) (omega arith))

  filter-all : (xs : List X) → AllWithin (λ x. p x ≡ true) xs 0 (length xs) → filter p xs ≡ xs
  filter-all [] h = refl
  filter-all (x ∷ xs) h =
      ap (λ b. cond b (x ∷ filter p xs) (filter p xs)) (h 0 x (omega arith) (omega arith))
      ∙ ap (λ ys. x ∷ ys) (filter-all xs (λ k d low high. h (suc k) d (omega arith) (omega arith)))

  -- none passes in front of them, and none behind
  pub filter-between : (xs : List X) (i j : ℕ) → i ≤ j → j ≤ length xs → AllWithin (λ x. p x ≡ false) xs 0 i
      → AllWithin (λ x. p x ≡ true) xs i j → AllWithin (λ x. p x ≡ false) xs j (length xs)
      → take (j - i) (drop i xs) ≡ filter p xs
  filter-between xs i j below within front middle back =
      let n = j - i in
      let rest = drop i xs in
      let long : length rest ≡ length xs - i = length-drop i xs in
      let first : filter p (take i xs) ≡ [] =
      filter-none (take i xs) (λ k d low high.
      let short : k < i = omega (arith, high, length-take-le i xs (omega arith)) in
      ap p (get_or-take i xs k d short) ∙ front k d low short) in
      let last : filter p (drop n rest) ≡ [] =
      filter-none (drop n rest) (λ k d low high.
      let at : i + (n + k) ≡ j + k = omega arith in
      ap p (get_or-drop n rest k d ∙ get_or-drop i xs (n + k) d ∙ ap (λ m. get_or xs m d) at)
      ∙ back (j + k) d (omega arith) (omega (arith, high, length-drop n rest, long))) in
      let kept : filter p (take n rest) ≡ take n rest =
      filter-all (take n rest) (λ k d low high.
      let short : k < n = omega (arith, high, length-take-le n rest (omega (arith, long))) in
      ap p (get_or-take n rest k d short ∙ get_or-drop i xs k d)
      ∙ middle (i + k) d (omega arith) (omega arith)) in
      let split : filter p rest ≡ take n rest =
      ap (filter p) (sym (take-append-drop n rest)) ∙ filter-append p (take n rest) (drop n rest)
      ∙ ap₂ (λ a b. a ++ b) kept last ∙ append-nil (take n rest) in
      sym (ap (filter p) (sym (take-append-drop i xs)) ∙ filter-append p (take i xs) rest
      ∙ ap₂ (λ a b. a ++ b) first split)

-- any line
abbrev some_line : Line
some_line = record { number = 0; group = 0; segment = 0; offset = 0 }

module _ (lines : List Line) (t i j : ℕ)
    (start : IsPartitionPoint (λ (l : Line). ltb l.segment t ≡ true) (λ l. ltb l.segment t ≡ false) lines i)
    (end : IsPartitionPoint (λ (l : Line). leb l.segment t ≡ true) (λ l. leb l.segment t ≡ false) lines j)
    (within : i ≤ length lines) where
  -- lines of lesser segments stand in front of those of no greater ones
  pub start-below : i ≤ j
  start-below = go (leb i j) refl
    where
      go : (fine : Bool) → leb i j ≡ fine → i ≤ j
      go true e = leb-true i j e
      go false e =
          let crossed = leb-false i j e in
          let l = get_or lines j some_line in
          let less = ltb-true l.segment t (start.0 j some_line (omega arith) crossed) in
          let greater = leb-false l.segment t (end.1 j some_line (omega arith) (omega (arith, crossed, within))) in
          absurd (omega (arith, less, greater))

  -- those between are the lines of the segment
  pub lines-between : j ≤ length lines → take (j - i) (drop i lines) ≡ filter (is_of t) lines
  lines-between fits =
      filter-between (is_of t) lines i j start-below fits
      (λ k d low high.
      let less = ltb-true _ t (start.0 k d low high) in ne_eqb _ t (λ same. omega (arith, less, same)))
      (λ k d low high.
      let above = ltb-false _ t (start.1 k d low (omega arith)) in
      let below = leb-true _ t (end.0 k d (omega arith) high) in eq-eqb _ t (omega (arith, above, below)))
      (λ k d low high.
      let greater = leb-false _ t (end.1 k d low high) in ne_eqb _ t (λ same. omega (arith, greater, same)))
