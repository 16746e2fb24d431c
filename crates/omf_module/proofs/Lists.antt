-- Lists that are read in order, one element further.
use Rattle.std.proofs.Common.{◌≡◌, ℕ, zero, suc, ◌+◌, ◌<◌, ◌≤◌, List, [], ◌∷◌, ◌++◌, length, map, Option, None, Some}
use Rattle.std.proofs.Common.{refl, sym, ap, ◌∙◌, append_assoc, arith, reverse, add-zero, get_or, take, drop}
use Rattle.std.proofs.lemmas.List.{append-nil, reverse-append, map-append, map_push, map_more, drop_all, drop_more}
use Rattle.std.proofs.lemmas.List.{take-append-drop}
use Rattle.std.proofs.lemmas.Grind.{flat_map-append}
use Rattle.std.specs.List.{flat_map, enumerate_from, slice_get}
use Rattle.std.specs.Option.{option_map}
use Rattle.std.proofs.lemmas.Option.{slice_get_within, get_or_from_slice_get}
use Rattle.omf_module.specs.Before.{along, last, first, entry}
use Rattle.omf_module.specs.inside.Running.{later}

pub flat_map_push : {X A : Type 0} (f : X → List A) (xs : List X) (x : X)
    → flat_map f (xs ++ x ∷ []) ≡ flat_map f xs ++ f x
flat_map_push f xs x = flat_map-append f xs (x ∷ []) ∙ ap (λ zs. flat_map f xs ++ zs) (append-nil (f x))

pub along_from_append : {A B : Type 0} (f : List A → A → List B) (before xs ys : List A)
    → along before f (xs ++ ys) ≡ along before f xs ++ along (before ++ xs) f ys
along_from_append f before [] ys = rw append-nil refl
along_from_append f before (x ∷ xs) ys =
    ap (λ zs. f before x ++ zs) (along_from_append f (before ++ x ∷ []) xs ys)
    ∙ rw (append_assoc before (x ∷ []) xs) (sym (append_assoc (f before x) _ _))

pub along_push : {A B : Type 0} (f : List A → A → List B) (xs : List A) (x : A)
    → along [] f (xs ++ x ∷ []) ≡ along [] f xs ++ f xs x
along_push f xs x = along_from_append f [] xs (x ∷ []) ∙ ap (λ zs. along [] f xs ++ zs) (append-nil (f xs x))

pub last_append : {A : Type 0} (xs ys : List A) → last (xs ++ ys) ≡ later (last ys) (last xs)
last_append xs ys = rw reverse-append (heads (reverse ys) (reverse xs))
  where
    heads : {A : Type 0} (us vs : List A) → slice_get (us ++ vs) 0 ≡ later (slice_get us 0) (slice_get vs 0)
    heads [] vs = refl
    heads (u ∷ us) vs = refl

pub enumerate_push : {A : Type 0} (n : ℕ) (xs : List A) (x : A)
    → enumerate_from n (xs ++ x ∷ []) ≡ enumerate_from n xs ++ (n + length xs, x) ∷ []
enumerate_push n [] x = simp add-zero
enumerate_push n (y ∷ ys) x =
    let e : n + 1 + length ys ≡ n + suc (length ys) = omega arith in
    ap (λ zs. (n, y) ∷ zs) (enumerate_push (n + 1) ys x ∙ ap (λ k. enumerate_from (n + 1) ys ++ (k, x) ∷ []) e)

-- a list about one of its elements
pub map_about : {X Y : Type 0} (f : X → Y) (xs : List X) (i : ℕ) (x : X) → i < length xs → x ≡ get_or xs i x
    → map f xs ≡ map f (take i xs) ++ f x ∷ map f (drop (i + 1) xs)
map_about f xs i x lt is =
    let e : take i xs ++ drop i xs ≡ take i xs ++ x ∷ drop (i + 1) xs =
    ap (λ zs. take i xs ++ zs) (drop_more xs i x lt ∙ ap (λ y. y ∷ drop (i + 1) xs) (sym is)) in
    ap (map f) (sym (take-append-drop i xs) ∙ e) ∙ map-append f (take i xs) (x ∷ drop (i + 1) xs)

pub map_to : {X Y : Type 0} (f : X → Y) (xs : List X) (i : ℕ) (x : X) → i < length xs → x ≡ get_or xs i x
    → map f (take (i + 1) xs) ≡ map f (take i xs) ++ f x ∷ []
map_to f xs i x lt is = map_more f xs i x lt ∙ ap (λ y. map f (take i xs) ++ f y ∷ []) (sym is)

pub drop_at_some : {X : Type 0} (xs : List X) (i : ℕ) (y : X) → slice_get xs i ≡ Some y
    → drop i xs ≡ y ∷ drop (i + 1) xs
drop_at_some xs i y e =
    drop_more xs i y (slice_get_within xs i y e) ∙ ap (λ x. x ∷ drop (i + 1) xs) (get_or_from_slice_get xs i y y e)

-- what an index means in a list of views
pub entry-map : {X Y : Type 0} (f : X → Y) (xs : List X) (i : ℕ) (x : X) → entry xs i ≡ Some x
    → entry (map f xs) i ≡ Some (f x)
entry-map f xs zero x e = cc
entry-map f [] (suc n) x e = cc
entry-map f (y ∷ xs) (suc zero) x e = ap (λ (o : Option _). option_map f o) e
entry-map f (y ∷ xs) (suc (suc n)) x e = entry-map f xs (suc n) x e

pub first_none : {A : Type 0} (o : Option A) (os : List (Option A)) → o ≡ None → first (o ∷ os) ≡ first os
first_none None os e = refl
first_none (Some x) os e = cc

-- one element more behind a list, of those that are told of another list
pub map_pushed : {X Y : Type 0} (f : X → Y) (ys : List Y) (xs : List X) (i : ℕ) (d : X) → i < length xs
    → (ys ++ map f (take i xs)) ++ f (get_or xs i d) ∷ [] ≡ ys ++ map f (take (i + 1) xs)
map_pushed f ys xs i d lt =
    append_assoc ys (map f (take i xs)) (f (get_or xs i d) ∷ [])
    ∙ ap (λ zs. ys ++ zs) (sym (map_more f xs i d lt))

pub map_map_pushed : {X Y Z : Type 0} (f : Y → Z) (g : X → Y) (zs : List Z) (xs : List X) (i : ℕ) (d : X)
    → i < length xs
    → (zs ++ map f (map g (take i xs))) ++ f (g (get_or xs i d)) ∷ [] ≡ zs ++ map f (map g (take (i + 1) xs))
map_map_pushed f g zs xs i d lt =
    append_assoc zs (map f (map g (take i xs))) (f (g (get_or xs i d)) ∷ [])
    ∙ ap (λ ws. zs ++ ws)
    (sym (ap (map f) (map_more g xs i d lt) ∙ map_push f (map g (take i xs)) (g (get_or xs i d))))

-- the first of what is told of the elements that are left
module _ {X A : Type 0} (f : X → Option A) (xs : List X) (i : ℕ) (d : X) where
  pub first_here : i < length xs → (y : A) → f (get_or xs i d) ≡ Some y
      → first (map f (drop i xs)) ≡ first (map f xs) → Some y ≡ first (map f xs)
  first_here lt y e so_far =
      sym (ap (λ ys. first (map f ys)) (drop_more xs i d lt)
      ∙ ap (λ o. first (o ∷ map f (drop (i + 1) xs))) e)
      ∙ so_far

  pub first_later : i < length xs → f (get_or xs i d) ≡ None
      → first (map f (drop i xs)) ≡ first (map f xs) → first (map f (drop (i + 1) xs)) ≡ first (map f xs)
  first_later lt e so_far =
      sym (ap (λ ys. first (map f ys)) (drop_more xs i d lt)
      ∙ ap (λ o. first (o ∷ map f (drop (i + 1) xs))) e)
      ∙ so_far

pub first_of_none : {X A : Type 0} (f : X → Option A) (xs : List X) (i : ℕ) → length xs ≤ i
    → first (map f (drop i xs)) ≡ first (map f xs) → None ≡ first (map f xs)
first_of_none f xs i le so_far = ap (λ ys. first (map f ys)) (sym (drop_all i xs le)) ∙ so_far
