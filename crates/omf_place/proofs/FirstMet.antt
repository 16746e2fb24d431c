-- The place at which a key was first met, one key after the other.
use Rattle.std.proofs.Common.{◌≡◌, ℕ, suc, ◌+◌, ◌<◌, Bool, true, false, cond, not, List, [], ◌∷◌, ◌++◌, length, Option}
use Rattle.std.proofs.Common.{Some, None, is_some, unwrap_or, refl, ap, sym, ◌∙◌, arith}
use Rattle.std.specs.Cmp.{IsEquivalence}
use Rattle.std.proofs.Common.{take, drop, get_or, map, length-take}
use Rattle.std.proofs.lemmas.List.{take_more, map-append}
use Rattle.std.proofs.Math.Seq.{split_at}
use Rattle.std.specs.List.{position_or_len}

-- the place of the first that passes, counted from n
abbrev pub place_from : {K : Type 0} → ℕ → (K → Bool) → List K → Option ℕ
place_from n p [] = None
place_from n p (x ∷ xs) = cond (p x) (Some n) (place_from (n + 1) p xs)

abbrev or_else : Option ℕ → Option ℕ → Option ℕ
or_else None o = o
or_else (Some x) o = Some x

place_from-push : {K : Type 0} (n : ℕ) (p : K → Bool) (xs : List K) (y : K) (m : ℕ) → m ≡ n + length xs →
    place_from n p (xs ++ y ∷ []) ≡ or_else (place_from n p xs) (cond (p y) (Some m) None)
place_from-push n p [] y m e = let h : n ≡ m = omega arith in ap (λ k. cond (p y) (Some k) None) h
place_from-push n p (x ∷ xs) y m e =
    elim (p x) as (λ b.
    cond b (Some n) (place_from (n + 1) p (xs ++ y ∷ []))
    ≡ or_else (cond b (Some n) (place_from (n + 1) p xs)) (cond (p y) (Some m) None))
    [ true ↦ refl | false ↦ place_from-push (n + 1) p xs y m (omega arith) ]

-- what passes is found in a longer list at the same place
place_from-Some : {K : Type 0} (n : ℕ) (p : K → Bool) (xs ys : List K) (i : ℕ) → place_from n p xs ≡ Some i
    → n + position_or_len p (xs ++ ys) ≡ i
place_from-Some n p [] ys i e = cc
place_from-Some n p (x ∷ xs) ys i e =
    (elim (p x) as (λ b.
    cond b (Some n) (place_from (n + 1) p xs) ≡ Some i → n + cond (not b) (1 + position_or_len p (xs ++ ys)) 0 ≡ i) [
      | true ↦ λ h. let h' : n ≡ i = cc in omega arith
      | false ↦ λ h. let g = place_from-Some (n + 1) p xs ys i h in omega (arith, g)
    ]) e

place_from-None : {K : Type 0} (n : ℕ) (p : K → Bool) (xs : List K) (y : K) (ys : List K) → place_from n p xs ≡ None
    → p y ≡ true → position_or_len p (xs ++ y ∷ ys) ≡ length xs
place_from-None n p [] y ys e t = rw t refl
place_from-None n p (x ∷ xs) y ys e t =
    (elim (p x) as (λ b.
    cond b (Some n) (place_from (n + 1) p xs) ≡ None
    → cond (not b) (1 + position_or_len p (xs ++ y ∷ ys)) 0 ≡ suc (length xs)) [
      | true ↦ λ h. cc
      | false ↦ λ h. let g = place_from-None (n + 1) p xs y ys h t in omega (arith, g)
    ]) e

length_take_within : {K : Type 0} (xs : List K) (i : ℕ) → i < length xs → length (take i xs) ≡ i
length_take_within xs i h = omega (arith, length-take i xs)

module _ {K : Type 0} (eq : K → K → Bool) (laws : IsEquivalence eq) where
  place-congr : (k q : K) (xs : List K) → eq k q ≡ true → place_from 0 (eq k) xs ≡ place_from 0 (eq q) xs
  place-congr k q xs e = let same : eq k ≡ eq q = λ j. λ x. laws.congr k q x e j in ap (λ p. place_from 0 p xs) same

  pub first_of : (xs : List K) (k : K) (ys : List K)
      → unwrap_or (place_from 0 (eq k) xs) (length xs) ≡ position_or_len (eq k) (xs ++ k ∷ ys)
  first_of xs k ys =
      (elim (place_from 0 (eq k) xs) as (λ o.
      place_from 0 (eq k) xs ≡ o → unwrap_or o (length xs) ≡ position_or_len (eq k) (xs ++ k ∷ ys)) [
        | None ↦ λ e. sym (place_from-None 0 (eq k) xs k ys e (laws.refl k))
        | Some i ↦ λ e. let g = place_from-Some 0 (eq k) xs (k ∷ ys) i e in omega (arith, g)
      ]) refl

  -- one key more
  pub met-more : (old new : K → Option ℕ) (xs : List K) (k : K) → ((q : K) → old q ≡ place_from 0 (eq q) xs) →
      ((q : K) → is_some (old k) ≡ true → new q ≡ old q) →
      ((q : K) → is_some (old k) ≡ false → new q ≡ cond (eq k q) (Some (length xs)) (old q)) →
      (q : K) → new q ≡ place_from 0 (eq q) (xs ++ k ∷ [])
  met-more old new xs k was kept added q =
      let push = place_from-push 0 (eq q) xs k (length xs) (omega arith) in
      (elim (place_from 0 (eq k) xs) as (λ o. place_from 0 (eq k) xs ≡ o → new q ≡ place_from 0 (eq q) (xs ++ k ∷ [])) [
        | None ↦ λ none.
            let is : new q ≡ cond (eq k q) (Some (length xs)) (place_from 0 (eq q) xs) =
            added q (ap is_some (was k ∙ none)) ∙ ap (λ o. cond (eq k q) (Some (length xs)) o) (was q) in
            is ∙ (elim (eq k q) as (λ b.
            eq k q ≡ b → cond b (Some (length xs)) (place_from 0 (eq q) xs) ≡ place_from 0 (eq q) (xs ++ k ∷ [])) [
              | true ↦ λ e.
                  let nq : place_from 0 (eq q) xs ≡ None = sym (place-congr k q xs e) ∙ none in
                  sym (push ∙ rw (nq, laws.symm q k, e) refl)
              | false ↦ λ e.
                  sym (push
                  ∙ rw (laws.symm q k, e)
                  ((elim (place_from 0 (eq q) xs) as (λ o. or_else o None ≡ o) [ None ↦ refl | Some j ↦ refl ])))
            ]) refl
        | Some i ↦ λ some.
            let is : new q ≡ place_from 0 (eq q) xs = kept q (ap is_some (was k ∙ some)) ∙ was q in
            is ∙ (elim (place_from 0 (eq q) xs) as (λ o.
            place_from 0 (eq q) xs ≡ o → o ≡ place_from 0 (eq q) (xs ++ k ∷ [])) [
              | Some j ↦ λ e. sym (push ∙ rw e refl)
              | None ↦ λ e.
                  sym (push ∙ rw e ((elim (eq q k) as (λ b. eq q k ≡ b → cond b (Some (length xs)) None ≡ None) [
                    | true ↦
                        λ t. let u = place-congr q k xs t in absurd (let v : None ≡ Some i = sym e ∙ u ∙ some in cc)
                    | false ↦ λ t. refl
                  ]) refl))
            ]) refl
      ]) refl

  -- the same at the key that a loop over all keys has come to
  pub met-turn : (old new : K → Option ℕ) (keys : List K) (i : ℕ) (k : K) → i < length keys → k ≡ get_or keys i k →
      ((q : K) → old q ≡ place_from 0 (eq q) (take i keys)) →
      ((q : K) → is_some (old k) ≡ true → new q ≡ old q) →
      ((q : K) → is_some (old k) ≡ false → new q ≡ cond (eq k q) (Some i) (old q)) →
      (q : K) → new q ≡ place_from 0 (eq q) (take (i + 1) keys)
  met-turn old new keys i k h e was kept added q =
      let len : length (take i keys) ≡ i = length_take_within keys i h in
      let more : take (i + 1) keys ≡ take i keys ++ k ∷ [] =
      take_more keys i k h ∙ ap (λ x. take i keys ++ x ∷ []) (sym e) in
      met-more old new (take i keys) k was kept (λ p n. added p n ∙ ap (λ m. cond (eq k p) (Some m) (old p)) (sym len))
      q ∙ ap (λ xs. place_from 0 (eq q) xs) (sym more)

  pub first-turn : (keys : List K) (i : ℕ) (k : K) → i < length keys → k ≡ get_or keys i k →
      unwrap_or (place_from 0 (eq k) (take i keys)) i ≡ position_or_len (eq k) keys
  first-turn keys i k h e =
      let len : length (take i keys) ≡ i = length_take_within keys i h in
      let whole : keys ≡ take i keys ++ k ∷ drop (suc i) keys =
      split_at keys i k h ∙ ap (λ x. take i keys ++ x ∷ drop (suc i) keys) (sym e) in
      ap (λ m. unwrap_or (place_from 0 (eq k) (take i keys)) m) (sym len) ∙ first_of (take i keys) k (drop (suc i) keys)
      ∙ ap (λ xs. position_or_len (eq k) xs) (sym whole)

-- a mapped front, with one element more
pub map-turn : {K X : Type 0} (f : K → X) (xs : List K) (i : ℕ) (k : K) (done : List X) (x : X) → i < length xs →
    k ≡ get_or xs i k → done ≡ map f (take i xs) → x ≡ f k →
    done ++ x ∷ [] ≡ map f (take (i + 1) xs)
map-turn f xs i k done x h e was is = rw (was, is, take_more xs i k h, map-append, sym e) refl
