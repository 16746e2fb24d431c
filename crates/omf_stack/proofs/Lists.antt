-- Lists, one element more at a time.
use Rattle.std.proofs.Common.{◌≡◌, ℕ, zero, suc, ◌+◌, ◌<◌, Bool, true, false, cond, ◌&&◌, ◌||◌, List, [], ◌∷◌, ◌++◌}
use Rattle.std.proofs.Common.{length, map, take, get_or, slice_get, Some, None, refl, ap, sym, ◌∙◌}
use Rattle.std.proofs.Common.{append-nil, arith, add-one, subst}
use Rattle.std.specs.Prelude.{find}
use Rattle.std.proofs.lemmas.List.{map-append, take_more}
use Rattle.std.proofs.lemmas.List.Folds.{list_any-append, list_any_at}
use Rattle.std.proofs.lemmas.Grind.{flat_map-append}
use Rattle.std.proofs.lemmas.Option.{get_or_from_slice_get, slice_get_within}
use Rattle.std.specs.List.{AllByRecursion, flat_map, list_any}
use Rattle.omf_place.proofs.Walks.{take-push}

-- one more
pub take_one : {X : Type 0} (xs : List X) (k : ℕ) (x : X) → slice_get xs k ≡ Some x
    → take (k + 1) xs ≡ take k xs ++ x ∷ []
take_one xs k x e = rw add-one (take-push xs k x e)

-- one more under a map
pub map_one : {X Y : Type 0} (f : X → Y) (xs : List X) (i : ℕ) (x : X) → i < length xs → x ≡ get_or xs i x
    → map f (take (i + 1) xs) ≡ map f (take i xs) ++ f x ∷ []
map_one f xs i x h e =
    ap (map f) (take_more xs i x h) ∙ map-append f (take i xs) (get_or xs i x ∷ [])
    ∙ ap (λ y. map f (take i xs) ++ f y ∷ []) (sym e)

-- what each has
pub flat_turn : {X Y : Type 0} (f : X → List Y) (xs : List X) (i : ℕ) (x : X) (old new : List Y) → i < length xs →
    x ≡ get_or xs i x → new ≡ old ++ f x → old ≡ flat_map f (take i xs) → new ≡ flat_map f (take (i + 1) xs)
flat_turn f xs i x old new h e is was =
    is ∙ ap (λ ys. ys ++ f x) was
    ∙ sym
    (ap (flat_map f) (take_more xs i x h ∙ ap (λ y. take i xs ++ y ∷ []) (sym e))
    ∙ flat_map-append f (take i xs) (x ∷ []) ∙ ap (λ ys. flat_map f (take i xs) ++ ys) (append-nil (f x)))

-- ---- tests along a list

or_false : (b : Bool) → (b || false) ≡ b
or_false true = refl
or_false false = refl

pub any_at : {X : Type 0} (p : X → Bool) (xs : List X) (i : ℕ) (x : X) → slice_get xs i ≡ Some x → p x ≡ true
    → list_any p xs ≡ true
any_at p xs i x e h = list_any_at p xs i x (slice_get_within xs i x e) (ap p (get_or_from_slice_get xs i x x e) ∙ h)

pub any_kept : {X : Type 0} (p : X → Bool) (xs : List X) (i : ℕ) (x : X) → slice_get xs i ≡ Some x
    → list_any p (take i xs) ≡ false → p x ≡ false → list_any p (take (i + 1) xs) ≡ false
any_kept p xs i x e h t =
    ap (list_any p) (take_one xs i x e) ∙ list_any-append p (take i xs) (x ∷ []) ∙ ap (λ b. b || (p x || false)) h
    ∙ ap (λ b. b || false) t

-- one more
pub any_turn : {X : Type 0} (p : X → Bool) (xs : List X) (i : ℕ) (x : X) → i < length xs → x ≡ get_or xs i x
    → list_any p (take (i + 1) xs) ≡ (list_any p (take i xs) || p x)
any_turn p xs i x h is =
    ap (list_any p) (take_more xs i x h ∙ ap (λ y. take i xs ++ y ∷ []) (sym is))
    ∙ list_any-append p (take i xs) (x ∷ []) ∙ ap (λ b. list_any p (take i xs) || b) (or_false (p x))

-- one more under a map
pub any_more : {X Y : Type 0} (f : X → Y) (p : Y → Bool) (xs : List X) (i : ℕ) (x : X) → i < length xs
    → x ≡ get_or xs i x → list_any p (map f (take (i + 1) xs)) ≡ (list_any p (map f (take i xs)) || p (f x))
any_more f p xs i x h e =
    ap (list_any p) (map_one f xs i x h e) ∙ list_any-append p (map f (take i xs)) (f x ∷ [])
    ∙ ap (λ b. list_any p (map f (take i xs)) || b) (or_false (p (f x)))

-- ---- the first that passes a test

pub find_here : {X Y : Type 0} (f : X → Y) (p : Y → Bool) (xs : List X) (i : ℕ) (x : X) → i < length xs →
    x ≡ get_or xs i x → find p (map f (take i xs)) ≡ None → p (f x) ≡ true → find p (map f xs) ≡ Some (f x)
find_here f p [] i x h e was t = absurd (omega (arith, h))
find_here f p (y ∷ ys) zero x h e was t =
    subst (λ z. cond (p (f z)) (Some (f z)) (find p (map f ys)) ≡ Some (f x)) e
    (ap (λ b. cond b (Some (f x)) (find p (map f ys))) t)
find_here {Y = Y} f p (y ∷ ys) (suc i) x h e was t =
    go (p (f y)) was (λ none. find_here f p ys i x (omega (arith, h)) e none t)
  where
    go : (b : Bool) → cond b (Some (f y)) (find p (map f (take i ys))) ≡ None →
        (find p (map f (take i ys)) ≡ None → find p (map f ys) ≡ Some (f x)) →
        cond b (Some (f y)) (find p (map f ys)) ≡ Some (f x)
    go true w k = absurd (cc)
    go false w k = k w

find-snoc : {X : Type 0} (p : X → Bool) (xs : List X) (x : X) → find p xs ≡ None → p x ≡ false
    → find p (xs ++ x ∷ []) ≡ None
find-snoc p [] x was t = ap (λ b. cond b (Some x) None) t
find-snoc p (y ∷ ys) x was t = go (p y) was (λ none. find-snoc p ys x none t)
  where
    go : (b : Bool) → cond b (Some y) (find p ys) ≡ None →
        (find p ys ≡ None → find p (ys ++ x ∷ []) ≡ None) → cond b (Some y) (find p (ys ++ x ∷ [])) ≡ None
    go true w k = absurd (cc)
    go false w k = k w

pub find_kept : {X Y : Type 0} (f : X → Y) (p : Y → Bool) (xs : List X) (i : ℕ) (x : X) → i < length xs →
    x ≡ get_or xs i x → find p (map f (take i xs)) ≡ None → p (f x) ≡ false →
    find p (map f (take (i + 1) xs)) ≡ None
find_kept f p xs i x h e was t =
    ap (find p) (map_one f xs i x h e) ∙ find-snoc p (map f (take i xs)) (f x) was t

-- what is found is one of them
pub found_passes : {X : Type 0} (P : X → Type 0) (p : X → Bool) (xs : List X) (x : X) → AllByRecursion P xs
    → find p xs ≡ Some x → P x
found_passes P p [] x all e = absurd (cc)
found_passes P p (y ∷ ys) x all e = go (p y) e (λ f. found_passes P p ys x all.1 f)
  where
    some : Some y ≡ Some x → y ≡ x
    some w = cc

    go : (b : Bool) → cond b (Some y) (find p ys) ≡ Some x → (find p ys ≡ Some x → P x) → P x
    go true w k = subst P (some w) all.0
    go false w k = k w

-- ---- both

pub both : (a b : Bool) → a ≡ true → b ≡ true → (a && b) ≡ true
both true true h k = refl
both true false h k = absurd (cc)
both false b h k = absurd (cc)

pub not-one : (a b : Bool) → a ≡ false → (a && b) ≡ false
not-one true b h = absurd (cc)
not-one false b h = refl

pub not-other : (a b : Bool) → b ≡ false → (a && b) ≡ false
not-other true true h = absurd (cc)
not-other true false h = refl
not-other false b h = refl
