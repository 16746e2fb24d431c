-- Publics by their names, one after the other.
use Rattle.std.proofs.Common.{◌≡◌, ℕ, ◌+◌, ◌<◌, Bool, true, false, cond, ◌&&◌, nat_eq, List, [], ◌∷◌, ◌++◌, Vec}
use Rattle.std.proofs.Common.{Option, Some, None, length, map, filter, take, get_or, refl, ap, ap₂, sym, ◌∙◌, arith}
use Rattle.std.proofs.Common.{append-nil, length-take}
use Rattle.std.proofs.lemmas.List.{length-map, map-append, take_more}
use Rattle.std.proofs.lemmas.List.Elements.{filter-append}
use Rattle.std.specs.BTreeMap.{BTreeMap, get}
use Rattle.std.specs.Cmp.{IsEquivalence, unsigned_tied}
use Rattle.std.specs.Cmp.Lexicographic.{on_texts_equal, slice_cmp, texts_ties}
use Rattle.std.specs.List.{enumerate_from}
use Rattle.std.specs.Map.{lookup}
use Rattle.std.specs.Option.{option_cmp, option_eq, option_map_or}
use Rattle.std.specs.Ordering.{is_eq, nat_cmp, ordering_then}
use Rattle.std.specs.Str.{bytes_eq}
use Rattle.std.specs.declared.cmp.Ordering.{Ordering}
use Rattle.std.specs.declared.cmp.Ordering.TheVariants.{Less, Equal, Greater}
use Rattle.doslink_telling.specs.declared.duplicates.Occurrence.{Occurrence}
use Rattle.doslink_telling.specs.declared.duplicates.PublicKey.{PublicKey}
use Rattle.doslink_telling.specs.Duplicates.{Public}
use Rattle.doslink_telling.specs.inside.Duplicates.{is_key_of, key_order, occurrence_of, places_at, same_key}

-- ---- keys

both-equal : (a b : Ordering) → is_eq (ordering_then a b) ≡ (is_eq a && is_eq b)
both-equal Less b = refl
both-equal Equal b = refl
both-equal Greater b = refl

owners-tied : (a b : Option ℕ) → is_eq (option_cmp nat_cmp a b) ≡ option_eq nat_eq a b
owners-tied None None = refl
owners-tied None (Some n) = refl
owners-tied (Some m) None = refl
owners-tied (Some m) (Some n) = unsigned_tied m n

-- keys that stand at one place are one
pub stands : (x y : PublicKey) → is_eq (key_order x y) ≡ same_key x y
stands x y =
    both-equal (option_cmp nat_cmp x.owner y.owner) (slice_cmp nat_cmp x.spelled.now y.spelled.now)
    ∙ ap₂ (λ a b. a && b) (owners-tied x.owner y.owner) (sym (texts_ties x.spelled.now y.spelled.now))

-- a key as a text: its owner's number, or 0, and the name
abbrev text : PublicKey → List ℕ
text k = option_map_or (λ n. n + 1) k.owner 0 ∷ k.spelled.now

owners-text : (a b : Option ℕ)
    → option_eq nat_eq a b ≡ nat_eq (option_map_or (λ n. n + 1) a 0) (option_map_or (λ n. n + 1) b 0)
owners-text None None = refl
owners-text None (Some n) = grind (arith)
owners-text (Some m) None = grind (arith)
owners-text (Some m) (Some n) = grind (arith)

by-text : (x y : PublicKey) → same_key x y ≡ bytes_eq (text x) (text y)
by-text x y = ap (λ b. b && bytes_eq x.spelled.now y.spelled.now) (owners-text x.owner y.owner)

texts-one : IsEquivalence (λ x y. bytes_eq (text x) (text y))
texts-one = on_texts_equal text

pub same-turned : (x y : PublicKey) → same_key x y ≡ same_key y x
same-turned x y = by-text x y ∙ texts-one.symm x y ∙ sym (by-text y x)

-- a map has the same for keys that are one
pub same-value : {X : Type 0} (m : BTreeMap PublicKey X) (x y : PublicKey) → same_key x y ≡ true
    → get key_order m x ≡ get key_order m y
same-value m x y e =
    let at : PublicKey → PublicKey → Bool = λ k l. is_eq (key_order k l) in
    let one : at x ≡ at y = λ j. λ l.
    (stands x l ∙ by-text x l ∙ texts-one.congr x y l (sym (by-text x y) ∙ e)
    ∙ sym (by-text y l) ∙ sym (stands y l)) j in
    ap (λ t. lookup t m.entries) one

-- ---- one more place

pub add-turn : {A : Type 0} (m removed new : BTreeMap PublicKey (Vec Occurrence A)) (key k : PublicKey)
    (all : Vec Occurrence A) (at : Occurrence)
    → get key_order removed k ≡ cond (is_eq (key_order key k)) None (get key_order m k)
    → get key_order new k ≡ cond (is_eq (key_order key k)) (Some all) (get key_order removed k)
    → all.items ≡ places_at m key ++ at ∷ []
    → places_at new k ≡ places_at m k ++ cond (same_key k key) (at ∷ []) []
add-turn m removed new key k all at took put is =
    let here : is_eq (key_order key k) ≡ same_key k key = stands key k ∙ same-turned key k in
    let put_here : get key_order new k
    ≡ cond (same_key k key) (Some all) (cond (same_key k key) None (get key_order m k)) =
    put ∙ ap₂ (λ b o. cond b (Some all) o) here (took ∙ ap (λ b. cond b None (get key_order m k)) here) in
    (elim (same_key k key) as (λ b. same_key k key ≡ b
    → get key_order new k ≡ cond b (Some all) (cond b None (get key_order m k))
    → places_at new k ≡ places_at m k ++ cond b (at ∷ []) []) [
      | true ↦ λ e p. ap (λ o. option_map_or (λ v. v.items) o []) p ∙ is
          ∙ ap (λ o. option_map_or (λ v. v.items) o [] ++ at ∷ []) (sym (same-value m k key e))
      | false ↦ λ e p. ap (λ o. option_map_or (λ v. v.items) o []) p ∙ sym (append-nil (places_at m k))
    ]) refl put_here

-- ---- one more public

enumerate-push : {X : Type 0} (k : ℕ) (xs : List X) (x : X)
    → enumerate_from k (xs ++ x ∷ []) ≡ enumerate_from k xs ++ (k + length xs, x) ∷ []
enumerate-push k [] x = let e : k ≡ k + 0 = omega arith in ap (λ n. (n, x) ∷ []) e
enumerate-push k (y ∷ ys) x =
    let e : (k + 1) + length ys ≡ k + length (y ∷ ys) = omega arith in
    ap (λ ps. (k, y) ∷ ps) (enumerate-push (k + 1) ys x ∙ ap (λ n. enumerate_from (k + 1) ys ++ (n, x) ∷ []) e)

-- the publics up to one, with their places
pub one-more : {Y : Type 0} (f : Y → Public) (ys : List Y) (i : ℕ) (d : Y) → i < length ys
    → enumerate_from 0 (map f (take (i + 1) ys))
    ≡ enumerate_from 0 (map f (take i ys)) ++ (i, f (get_or ys i d)) ∷ []
one-more f ys i d h =
    let n : 0 + length (map f (take i ys)) ≡ i = omega (arith, length-map (take i ys) f, length-take i ys) in
    ap (λ l. enumerate_from 0 (map f l)) (take_more ys i d h)
    ∙ ap (enumerate_from 0) (map-append f (take i ys) (get_or ys i d ∷ []))
    ∙ enumerate-push 0 (map f (take i ys)) (f (get_or ys i d))
    ∙ ap (λ k. enumerate_from 0 (map f (take i ys)) ++ (k, f (get_or ys i d)) ∷ []) n

-- those of them that pass a test
pub some-more : {Y : Type 0} (f : Y → Public) (test : ℕ × Public → Bool) (ys : List Y) (i : ℕ) (d : Y) → i < length ys
    → filter test (enumerate_from 0 (map f (take (i + 1) ys)))
    ≡ filter test (enumerate_from 0 (map f (take i ys)))
    ++ cond (test (i, f (get_or ys i d))) ((i, f (get_or ys i d)) ∷ []) []
some-more f test ys i d h =
    ap (filter test) (one-more f ys i d h)
    ∙ filter-append test (enumerate_from 0 (map f (take i ys))) ((i, f (get_or ys i d)) ∷ [])

mapped-cond : {X Y : Type 0} (f : X → Y) (b : Bool) (x : X) → map f (cond b (x ∷ []) []) ≡ cond b (f x ∷ []) []
mapped-cond f true x = refl
mapped-cond f false x = refl

-- where those of a key are
pub index-turn : {Y : Type 0} (f : Y → Public) (ys : List Y) (i : ℕ) (d : Y) (k : PublicKey) (old new : List Occurrence)
    → i < length ys
    → old ≡ map occurrence_of (filter (λ e. is_key_of k e.1) (enumerate_from 0 (map f (take i ys))))
    → new ≡ old ++ cond (is_key_of k (f (get_or ys i d))) (occurrence_of (i, f (get_or ys i d)) ∷ []) []
    → new ≡ map occurrence_of (filter (λ e. is_key_of k e.1) (enumerate_from 0 (map f (take (i + 1) ys))))
index-turn f ys i d k old new h before added =
    let y : ℕ × Public = (i, f (get_or ys i d)) in
    let test : ℕ × Public → Bool = λ e. is_key_of k e.1 in
    let front = filter test (enumerate_from 0 (map f (take i ys))) in
    added ∙ ap (λ l. l ++ cond (test y) (occurrence_of y ∷ []) []) before
    ∙ ap (λ l. map occurrence_of front ++ l) (sym (mapped-cond occurrence_of (test y) y))
    ∙ sym (map-append occurrence_of front (cond (test y) (y ∷ []) []))
    ∙ ap (map occurrence_of) (sym (some-more f test ys i d h))
