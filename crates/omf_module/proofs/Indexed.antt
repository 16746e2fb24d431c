-- Lists whose elements become others one after the other, by their numbers.
use Rattle.std.proofs.Common.{◌≡◌, ℕ, zero, suc, ◌+◌, ◌<◌, List, [], ◌∷◌, ◌++◌, map, take, drop, set, length, get_or}
use Rattle.std.proofs.Common.{sym, ap, ◌∙◌, refl, arith}
use Rattle.std.specs.List.{enumerate_from}
use Rattle.std.proofs.lemmas.List.{map-set, get_or-map, length-map}

-- those before an index are others
abbrev pub mixed : {V : Type 0} → (ℕ × V → V) → (n : ℕ) → (vs : List V) → (i : ℕ) → List V
mixed g n vs i = map g (enumerate_from n (take i vs)) ++ drop i vs

module _ {V : Type 0} (g : ℕ × V → V) where
  pub mixed_at : (n : ℕ) (vs : List V) (i : ℕ) (d : V) → i < length vs → get_or (mixed g n vs i) i d ≡ get_or vs i d
  mixed_at n [] i d lt = absurd (omega arith)
  mixed_at n (v ∷ vs) zero d lt = refl
  mixed_at n (v ∷ vs) (suc i) d lt = mixed_at (n + 1) vs i d (omega arith)

  pub mixed_more : (n : ℕ) (vs : List V) (i : ℕ) (d : V) → i < length vs
      → set (mixed g n vs i) i (g (n + i, get_or vs i d)) ≡ mixed g n vs (suc i)
  mixed_more n [] i d lt = absurd (omega arith)
  mixed_more n (v ∷ vs) zero d lt =
      let here : n + 0 ≡ n = omega arith in
      ap (λ k. g (k, v) ∷ vs) here
  mixed_more n (v ∷ vs) (suc i) d lt =
      let on : n + suc i ≡ n + 1 + i = omega arith in
      ap (λ k. g (n, v) ∷ set (mixed g (n + 1) vs i) i (g (k, get_or vs i d))) on
      ∙ ap (λ ws. g (n, v) ∷ ws) (mixed_more (n + 1) vs i d (omega arith))

  -- by what they are seen as
  pub indexed_more : {E : Type 0} (see : E → V) (old now : List E) (i : ℕ) (e e' : E) → i < length old
      → i < length now → e ≡ get_or now i e → map see now ≡ mixed g 0 (map see old) i → see e' ≡ g (i, see e)
      → map see (set now i e') ≡ mixed g 0 (map see old) (i + 1)
  indexed_more see old now i e e' lt lt' at before says =
      let inside : i < length (map see old) = omega (arith, length-map old see) in
      let read : see e ≡ get_or (map see old) i (see e) =
      ap see at ∙ sym (get_or-map see now i e (see e) lt') ∙ ap (λ vs. get_or vs i (see e)) before
      ∙ mixed_at 0 (map see old) i (see e) inside in
      let here : 0 + i ≡ i = omega arith in
      let on : suc i ≡ i + 1 = omega arith in
      map-set see now i e' ∙ ap (λ v. set (map see now) i v) (says ∙ ap (λ v. g (i, v)) read)
      ∙ ap (λ vs. set vs i (g (i, get_or (map see old) i (see e)))) before
      ∙ ap (λ k. set (mixed g 0 (map see old) i) i (g (k, get_or (map see old) i (see e)))) (sym here)
      ∙ mixed_more 0 (map see old) i (see e) inside ∙ ap (mixed g 0 (map see old)) on
