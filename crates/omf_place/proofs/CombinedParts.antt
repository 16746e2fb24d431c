-- Sites combine where the places of their combined segments agree.
use Rattle.std.proofs.Common.{◌≡◌, ℕ, ◌<◌, max, Bool, true, false, cond, eqb, eq-eqb, inl, inr, List, [], ◌∷◌, map}
use Rattle.std.proofs.Common.{filter, fold, length, get_or, Some, slice_get, refl, ap, sym, ◌∙◌, arith, subst}
use Rattle.std.proofs.lemmas.Bool.{eqb-true, cases_lt}
use Rattle.std.proofs.lemmas.Option.{slice_get-get_or, get_or_from_slice_get, slice_get_within}
use Rattle.std.proofs.lemmas.List.Sums.{fails_before_first, passes_at_first}
use Rattle.std.proofs.lemmas.Slice.Eq.{bytes_eq-Decides}
use Rattle.std.proofs.lemmas.List.{length-map}
use Rattle.std.specs.List.{AllByRecursion, position_or_len}
use Rattle.std.specs.Str.{bytes_eq}
use Rattle.omf_place.specs.declared.order.Joining.{Joining}
use Rattle.omf_place.specs.declared.order.Joining.TheVariants as joining
use Rattle.omf_place.specs.Parts.{Site, combines}
use Rattle.omf_place.specs.Placed.{greatest, members}
use Rattle.omf_place.specs.inside.Keys.{Key, Alone, Joined, key, same_joining, same_key, segment_place}
use Rattle.omf_place.specs.inside.Numbered.{IsNumberedFrom}
use Rattle.omf_place.specs.inside.Greatest.{greatest_at}
use Rattle.omf_place.proofs.SiteLists.{one_place}
use Rattle.omf_place.proofs.KeyPlaces.{keys_combine, place_congr}
use Rattle.omf_place.proofs.Leaders.{combines-itself, and_both, at_own}
use Rattle.omf_place.proofs.Walks.{All-map, numbered_found}

same_joining-is : (j k : Joining) → same_joining j k ≡ true → j ≡ k
same_joining-is joining.Public joining.Public e = refl
same_joining-is joining.Stack joining.Stack e = refl
same_joining-is joining.Common joining.Common e = refl
same_joining-is j k e = cc

joined_are : (j k : Joining) (n c m d : List ℕ) → j ≡ k → n ≡ m → c ≡ d → Joined j n c ≡ Joined k m d
joined_are j k n c m d p q r = cc

same_key-is : (x y : Key) → same_key x y ≡ true → x ≡ y
same_key-is (Alone p) (Alone q) e = ap (λ n. Alone n) (eqb-true p q e)
same_key-is (Joined j n c) (Joined k m d) e =
    let s = and_both (same_joining j k) _ e in
    let t = and_both (bytes_eq n m) _ s.1 in
    joined_are j k n c m d (same_joining-is j k s.0) ((bytes_eq-Decides n m).0 t.0) ((bytes_eq-Decides c d).0 t.1)
same_key-is x y e = cc

-- the first element that the greatest begins from
fold-most : {X : Type 0} (f : X → ℕ) (acc : ℕ) (xs : List X)
    → fold (λ m x. max m (f x)) acc xs ≡ max acc (fold (λ m x. max m (f x)) 0 xs)
fold-most f acc [] = omega arith
fold-most f acc (x ∷ xs) = omega (arith, fold-most f (max acc (f x)) xs, fold-most f (max 0 (f x)) xs)

greatest-filter : {X : Type 0} (place f : X → ℕ) (k : ℕ) (xs : List X)
    → greatest_at (map place xs) (map f xs) k ≡ greatest f (filter (λ b. eqb (place b) k) xs)
greatest-filter place f k [] = refl
greatest-filter place f k (x ∷ xs) =
    let h = greatest-filter place f k xs in
    elim (eqb (place x) k) as (λ b.
    max (cond b (f x) 0) (greatest_at (map place xs) (map f xs) k)
    ≡ fold (λ m y. max m (f y)) 0 (cond b (x ∷ filter (λ y. eqb (place y) k) xs) (filter (λ y. eqb (place y) k) xs))) [
      | true ↦ omega (arith, h, fold-most f (max 0 (f x)) (filter (λ y. eqb (place y) k) xs))
      | false ↦ omega (arith, h)
    ]

filter_congr : {X : Type 0} (p q : X → Bool) (xs : List X) → AllByRecursion (λ x. p x ≡ q x) xs
    → filter p xs ≡ filter q xs
filter_congr p q [] h = refl
filter_congr p q (x ∷ xs) h = rw (h.0, filter_congr p q xs h.1) refl

All-mapped : {X : Type 0} (f : X → ℕ) (P : ℕ → Type 0) (xs : List X) → AllByRecursion (λ x. P (f x)) xs
    → AllByRecursion P (map f xs)
All-mapped f P [] ps = tt
All-mapped f P (x ∷ xs) ps = (ps.0, All-mapped f P xs ps.1)

module _ (ss : List Site) (numbered : IsNumberedFrom 0 ss) where
  keyed : (a b : Site) → slice_get ss a.position ≡ Some a → slice_get ss b.position ≡ Some b
      → same_key (key a) (key b) ≡ combines a b
  keyed a b ha hb = keys_combine a b (one_place ss a b ha hb)

  place_key : (a : Site) → slice_get ss a.position ≡ Some a
      → segment_place ss a ≡ position_or_len (λ b. same_key (key a) (key b)) ss
  place_key a ha = sym (place_congr (λ b. same_key (key a) (key b)) (combines a) ss
      (All-map (λ b. slice_get ss b.position ≡ Some b) (λ b. same_key (key a) (key b) ≡ combines a b) ss
      (λ b hb. keyed a b ha hb) (numbered_found ss numbered)))

  pub place_within : (a : Site) → slice_get ss a.position ≡ Some a → segment_place ss a < length ss
  place_within a at =
      let i = segment_place ss a in
      let inside : a.position < length ss = slice_get_within ss a.position a at in
      let self : get_or ss a.position a ≡ a = get_or_from_slice_get ss a.position a a at in
      elim (cases_lt i (length ss)) [
        | inl h ↦ h
        | inr h ↦
            let fails : combines a (get_or ss a.position a) ≡ false =
            fails_before_first (combines a) ss a.position a (omega arith) in
            absurd
            (let t : combines a a ≡ true = combines-itself a in
            let u : combines a a ≡ false = subst (λ x. combines a x ≡ false) self fails in
            let v : true ≡ false = sym t ∙ u in cc)
      ]

  -- what stands at the place of a combines with a
  first_key : (a : Site) → slice_get ss a.position ≡ Some a → (d : Site)
      → key a ≡ key (get_or ss (segment_place ss a) d)
  first_key a ha d =
      let i = segment_place ss a in
      let h = place_within a ha in
      let c = get_or ss i d in
      let got : slice_get ss i ≡ Some c = slice_get-get_or ss i d h in
      same_key-is (key a) (key c) (keyed a c ha (at_own ss i c numbered got) ∙ passes_at_first (combines a) ss d h)

  pub place_eq : (a b : Site) → slice_get ss a.position ≡ Some a → slice_get ss b.position ≡ Some b
      → eqb (segment_place ss b) (segment_place ss a) ≡ combines a b
  place_eq a b ha hb =
      (elim (combines a b) as (λ t. combines a b ≡ t → eqb (segment_place ss b) (segment_place ss a) ≡ t) [
        | true ↦ λ t.
            let e : key a ≡ key b = same_key-is (key a) (key b) (keyed a b ha hb ∙ t) in
            eq-eqb _ _
            (place_key b hb ∙ sym (ap (λ v. position_or_len (λ c. same_key v (key c)) ss) e) ∙ sym (place_key a ha))
        | false ↦ λ t.
            (elim (eqb (segment_place ss b) (segment_place ss a)) as (λ u.
            eqb (segment_place ss b) (segment_place ss a) ≡ u → u ≡ false) [
              | false ↦ λ u. refl
              | true ↦ λ u.
                  let e : segment_place ss b ≡ segment_place ss a = eqb-true _ _ u in
                  let same : key b ≡ key a =
                  first_key b hb a ∙ ap (λ i. key (get_or ss i a)) e ∙ sym (first_key a ha a) in
                  let yes_ : combines a b ≡ true =
                  sym (keyed a b ha hb) ∙ ap (λ v. same_key (key a) v) same ∙ keyed a a ha ha ∙ combines-itself a in
                  absurd (let v : true ≡ false = sym yes_ ∙ t in cc)
            ]) refl
      ]) refl

  -- the greatest at its place is the greatest of its combined segment
  pub greatest_combined : (f : Site → ℕ) (a : Site) → slice_get ss a.position ≡ Some a
      → greatest_at (map (segment_place ss) ss) (map f ss) (segment_place ss a) ≡ greatest f (members ss a)
  greatest_combined f a ha =
      greatest-filter (segment_place ss) f (segment_place ss a) ss
      ∙ ap (λ xs. greatest f xs) (filter_congr (λ b. eqb (segment_place ss b) (segment_place ss a)) (combines a) ss
      (All-map (λ b. slice_get ss b.position ≡ Some b)
      (λ b. eqb (segment_place ss b) (segment_place ss a) ≡ combines a b) ss (λ b hb. place_eq a b ha hb)
      (numbered_found ss numbered)))

  -- each place lies in the list
  pub places_within : AllByRecursion (λ first. first < length (map (segment_place ss) ss)) (map (segment_place ss) ss)
  places_within = All-mapped (segment_place ss) (λ first. first < length (map (segment_place ss) ss)) ss
      (All-map (λ a. slice_get ss a.position ≡ Some a) (λ a. segment_place ss a < length (map (segment_place ss) ss)) ss
      (λ a ha. let h = place_within a ha in omega (arith, length-map ss (segment_place ss)))
      (numbered_found ss numbered))

  pub combines-symm : (a b : Site) → slice_get ss a.position ≡ Some a → slice_get ss b.position ≡ Some b
      → combines a b ≡ true → combines b a ≡ true
  combines-symm a b ha hb t =
      let e : key a ≡ key b = same_key-is (key a) (key b) (keyed a b ha hb ∙ t) in
      sym (keyed b a hb ha) ∙ ap (λ v. same_key v (key a)) (sym e) ∙ keyed a a ha ha ∙ combines-itself a
