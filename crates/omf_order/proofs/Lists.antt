-- Lists, one element more at a time.
use Rattle.std.proofs.Common.{◌≡◌, ℕ, zero, suc, ◌+◌, ◌<◌, ◌≤◌, Bool, true, false, cond, not, ◌&&◌, ◌||◌, All, List, []}
use Rattle.std.proofs.Common.{◌∷◌, ◌++◌, length, take, drop, insert, map, filter, get_or, unwrap_or, Option, Some}
use Rattle.std.proofs.Common.{slice_get}
use Rattle.std.proofs.Common.{refl, ap, sym, ◌∙◌, arith, add-one, append-nil, append_assoc}
use Rattle.std.proofs.lemmas.List.{map-append, take_all, take_more}
use Rattle.std.proofs.lemmas.List.Elements.{filter-append, filter_map-append}
use Rattle.std.proofs.lemmas.Grind.{flat_map-append}
use Rattle.std.proofs.lemmas.List.Folds.{list_any-append, list_any_at}
use Rattle.std.proofs.lemmas.Option.{get_or_from_slice_get, slice_get_within}
use Rattle.std.specs.List.{AllByRecursion, filter_map, flat_map, list_any, position_or_len}
use Rattle.omf_module.specs.Module.{ExternalSymbol, Group, Segment}
use Rattle.omf_module.specs.Sound.{IsMember}
use Rattle.omf_place.proofs.FirstMet.{place_from}
use Rattle.omf_place.proofs.Walks.{take-push}

-- one more
pub take_one : {X : Type 0} (xs : List X) (k : ℕ) (x : X) → slice_get xs k ≡ Some x
    → take (k + 1) xs ≡ take k xs ++ x ∷ []
take_one xs k x e = rw add-one (take-push xs k x e)

-- what passes of one more
pub filter_one : {X : Type 0} (p : X → Bool) (xs : List X) (k : ℕ) (x : X) → slice_get xs k ≡ Some x
    → filter p (take (k + 1) xs) ≡ filter p (take k xs) ++ cond (p x) (x ∷ []) []
filter_one p xs k x e = ap (filter p) (take_one xs k x e) ∙ filter-append p (take k xs) (x ∷ [])

-- what one more gives
pub flat_map_one : {X Y : Type 0} (f : X → List Y) (xs : List X) (k : ℕ) (x : X) → slice_get xs k ≡ Some x
    → flat_map f (take (k + 1) xs) ≡ flat_map f (take k xs) ++ f x
flat_map_one f xs k x e =
    ap (flat_map f) (take_one xs k x e) ∙ flat_map-append f (take k xs) (x ∷ [])
    ∙ ap (λ ys. flat_map f (take k xs) ++ ys) (append-nil (f x))

-- what one more gives, if anything
pub filter_map_one : {X Y : Type 0} (f : X → Option Y) (xs : List X) (k : ℕ) (x : X) (y : Y) → slice_get xs k ≡ Some x
    → f x ≡ Some y → filter_map f (take (k + 1) xs) ≡ filter_map f (take k xs) ++ y ∷ []
filter_map_one f xs k x y e is =
    ap (filter_map f) (take_one xs k x e) ∙ filter_map-append f (take k xs) (x ∷ []) ∙ rw is refl

-- ---- the lists of the code, by what they hold

-- one that passes is added
pub filter-added : {C X : Type 0} (view : C → X) (p : X → Bool) (xs : List X) (i : ℕ) (c : C) (front : List X)
    (old new : List C) → slice_get xs i ≡ Some (view c) → p (view c) ≡ true →
    new ≡ old ++ c ∷ [] → map view old ≡ front ++ filter p (take i xs) →
    map view new ≡ front ++ filter p (take (i + 1) xs)
filter-added view p xs i c front old new e t is was =
    ap (map view) is ∙ map-append view old (c ∷ []) ∙ ap (λ ys. ys ++ view c ∷ []) was
    ∙ append_assoc front (filter p (take i xs)) (view c ∷ [])
    ∙ ap (λ ys. front ++ ys)
    (sym (filter_one p xs i (view c) e ∙ ap (λ b. filter p (take i xs) ++ cond b (view c ∷ []) []) t))

-- another isn't
pub filter-kept : {C X : Type 0} (view : C → X) (p : X → Bool) (xs : List X) (i : ℕ) (c : C) (front : List X)
    (old : List C) → slice_get xs i ≡ Some (view c) → p (view c) ≡ false →
    map view old ≡ front ++ filter p (take i xs) → map view old ≡ front ++ filter p (take (i + 1) xs)
filter-kept view p xs i c front old e t was =
    was ∙ ap (λ ys. front ++ ys)
    (sym
    (filter_one p xs i (view c) e ∙ ap (λ b. filter p (take i xs) ++ cond b (view c ∷ []) []) t
    ∙ append-nil (filter p (take i xs))))

-- members of a group, one more
pub members-added : {X : Type 0} (xs : List X) (ms : List ℕ) (i : ℕ) (x : X) → i < length ms →
    slice_get xs (get_or ms i 0) ≡ Some x →
    filter_map (slice_get xs) (take (i + 1) ms) ≡ filter_map (slice_get xs) (take i ms) ++ x ∷ []
members-added xs ms i x h e =
    ap (filter_map (slice_get xs)) (take_more ms i 0 h)
    ∙ filter_map-append (slice_get xs) (take i ms) (get_or ms i 0 ∷ []) ∙ rw e refl

-- ---- tests along a list

pub any_at : {X : Type 0} (p : X → Bool) (xs : List X) (i : ℕ) (x : X) → slice_get xs i ≡ Some x → p x ≡ true
    → list_any p xs ≡ true
any_at p xs i x e h = list_any_at p xs i x (slice_get_within xs i x e) (ap p (get_or_from_slice_get xs i x x e) ∙ h)

pub any_kept : {X : Type 0} (p : X → Bool) (xs : List X) (i : ℕ) (x : X) → slice_get xs i ≡ Some x
    → list_any p (take i xs) ≡ false → p x ≡ false → list_any p (take (i + 1) xs) ≡ false
any_kept p xs i x e h t =
    ap (list_any p) (take_one xs i x e) ∙ list_any-append p (take i xs) (x ∷ []) ∙ ap (λ b. b || (p x || false)) h
    ∙ ap (λ b. b || false) t

-- the members of a group are segments of its module
pub members_below : (ss : List Segment) (gs : List Group) (es : List ExternalSymbol) (ms : List ℕ)
    → All (IsMember ss gs es) ms → AllByRecursion (λ k. k < length ss) ms
members_below ss gs es [] h = tt
members_below ss gs es (m ∷ ms) h = (
  let it = h 0 m (omega arith) in slice_get_within ss m it.0 it.1.0,
  members_below ss gs es ms (λ i d l. h (suc i) d (omega (arith, l))),
)

-- ---- what stands at a place, or the number of all

pub place_is : {X : Type 0} (n : ℕ) (p : X → Bool) (xs : List X)
    → unwrap_or (place_from n p xs) (n + length xs) ≡ n + position_or_len p xs
place_is n p [] = refl
place_is n p (x ∷ xs) =
    elim (p x) as (λ b.
    unwrap_or (cond b (Some n) (place_from (n + 1) p xs)) (n + suc (length xs))
    ≡ n + cond (not b) (1 + position_or_len p xs) 0) [
      | true ↦ omega arith
      | false ↦ let e : n + suc (length xs) ≡ n + 1 + length xs = omega arith in
          ap (λ m. unwrap_or (place_from (n + 1) p xs) m) e ∙ place_is (n + 1) p xs
          ∙ (let f : n + 1 + position_or_len p xs ≡ n + (1 + position_or_len p xs) = omega arith in f)
    ]

-- ---- an element put into a list

pub map-insert : {X Y : Type 0} (f : X → Y) (xs : List X) (i : ℕ) (x : X)
    → map f (insert xs i x) ≡ insert (map f xs) i (f x)
map-insert f xs i x = map-append f (take i xs) (x ∷ drop i xs) ∙ rw (front f i xs, back f i xs) refl
  where
    front : {X Y : Type 0} (f : X → Y) (i : ℕ) (xs : List X) → map f (take i xs) ≡ take i (map f xs)
    front f zero xs = refl
    front f (suc i) [] = refl
    front f (suc i) (x ∷ xs) = ap (λ ys. f x ∷ ys) (front f i xs)

    back : {X Y : Type 0} (f : X → Y) (i : ℕ) (xs : List X) → map f (drop i xs) ≡ drop i (map f xs)
    back f zero xs = refl
    back f (suc i) [] = refl
    back f (suc i) (x ∷ xs) = back f i xs

-- ---- tests along the modules of a program

-- one more
pub any_turn : {X : Type 0} (p : X → Bool) (xs : List X) (i : ℕ) (x : X) → i < length xs → x ≡ get_or xs i x
    → list_any p (take (i + 1) xs) ≡ (list_any p (take i xs) || p x)
any_turn p xs i x h is =
    ap (list_any p) (take_more xs i x h ∙ ap (λ y. take i xs ++ y ∷ []) (sym is))
    ∙ list_any-append p (take i xs) (x ∷ []) ∙ ap (λ b. list_any p (take i xs) || b) (or_false (p x))
  where
    or_false : (b : Bool) → (b || false) ≡ b
    or_false true = refl
    or_false false = refl

-- one that passes the second test: it isn't so that some pass the first and none the second
pub refuted : {X : Type 0} (p q : X → Bool) (xs : List X) (i : ℕ) (x : X) → i < length xs → x ≡ get_or xs i x →
    q x ≡ true → (list_any p xs && not (list_any q xs)) ≡ false
refuted p q xs i x h is t =
    ap (λ b. list_any p xs && not b) (list_any_at q xs i x h (ap q (sym is) ∙ t)) ∙ and_false (list_any p xs)
  where
    and_false : (b : Bool) → (b && false) ≡ false
    and_false true = refl
    and_false false = refl

-- none passes the second: it is so where some pass the first
pub unrefuted : {X : Type 0} (p q : X → Bool) (xs : List X) (i : ℕ) → length xs ≤ i → list_any q (take i xs) ≡ false
    → list_any p (take i xs) ≡ (list_any p xs && not (list_any q xs))
unrefuted p q xs i h none =
    let all = take_all i xs h in
    ap (list_any p) all ∙ sym (and_true (list_any p xs))
    ∙ ap (λ b. list_any p xs && not b) (sym none ∙ ap (list_any q) all)
  where
    and_true : (b : Bool) → (b && true) ≡ b
    and_true true = refl
    and_true false = refl

-- ---- lists that a loop makes, one element more

-- what each gives
pub map_turn : {C X : Type 0} (f : C → X) (xs : List C) (i : ℕ) (d : C) (old new : List X) → i < length xs →
    new ≡ old ++ f (get_or xs i d) ∷ [] → old ≡ map f (take i xs) → new ≡ map f (take (i + 1) xs)
map_turn f xs i d old new h is was =
    is ∙ ap (λ ys. ys ++ f (get_or xs i d) ∷ []) was
    ∙ sym (ap (map f) (take_more xs i d h) ∙ map-append f (take i xs) (get_or xs i d ∷ []))

-- what each has
pub flat_turn : {X Y : Type 0} (f : X → List Y) (xs : List X) (i : ℕ) (x : X) (old new : List Y) → i < length xs →
    x ≡ get_or xs i x → new ≡ old ++ f x → old ≡ flat_map f (take i xs) → new ≡ flat_map f (take (i + 1) xs)
flat_turn f xs i x old new h e is was =
    is ∙ ap (λ ys. ys ++ f x) was
    ∙ sym
    (ap (flat_map f) (take_more xs i x h ∙ ap (λ y. take i xs ++ y ∷ []) (sym e))
    ∙ flat_map-append f (take i xs) (x ∷ []) ∙ ap (λ ys. flat_map f (take i xs) ++ ys) (append-nil (f x)))

-- what passes
pub filter_turn : {C : Type 0} (p : C → Bool) (xs : List C) (i : ℕ) (d : C) (b : Bool) (old new : List C) →
    i < length xs → b ≡ p (get_or xs i d) → new ≡ old ++ cond b (get_or xs i d ∷ []) [] → old ≡ filter p (take i xs) →
    new ≡ filter p (take (i + 1) xs)
filter_turn p xs i d b old new h e is was =
    is ∙ ap (λ t. old ++ cond t (get_or xs i d ∷ []) []) e
    ∙ ap (λ ys. ys ++ cond (p (get_or xs i d)) (get_or xs i d ∷ []) []) was
    ∙ sym (ap (filter p) (take_more xs i d h) ∙ filter-append p (take i xs) (get_or xs i d ∷ []))

-- views of what passes
pub filter_viewed : {C X : Type 0} (view : C → X) (p : X → Bool) (xs : List C)
    → map view (filter (λ x. p (view x)) xs) ≡ filter p (map view xs)
filter_viewed view p [] = refl
filter_viewed view p (x ∷ xs) =
    elim (p (view x)) as (λ b.
    map view (cond b (x ∷ filter (λ x. p (view x)) xs) (filter (λ x. p (view x)) xs))
    ≡ cond b (view x ∷ filter p (map view xs)) (filter p (map view xs))) [
      | true ↦ ap (λ ys. view x ∷ ys) (filter_viewed view p xs)
      | false ↦ filter_viewed view p xs
    ]
