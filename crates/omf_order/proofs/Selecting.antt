-- What a list selects, the key of a part by it, and parts of a class.
use Rattle.std.proofs.Common.{◌≡◌, ℕ, suc, ◌+◌, ◌≤◌, Bool, true, false, cond, not, ◌&&◌, ◌||◌, ltb, List, [], ◌∷◌}
use Rattle.std.proofs.Common.{length}
use Rattle.std.proofs.Common.{map, min, Bor, Option, Some, None, is_some, unwrap_or, refl, ap, sym, ◌∙◌, arith}
use Rattle.std.specs.Prelude.{position}
use Rattle.std.proofs.lemmas.Bool.{ltb-false}
use Rattle.std.proofs.lemmas.List.{length-map}
use Rattle.std.specs.List.{list_any, position_or_len}
use Rattle.std.specs.Option.{option_eq, option_map, option_map_or}
use Rattle.std.specs.Str.{bytes_eq}
use Rattle.omf_order.specs.declared.keys.Selector.{Selector}
use Rattle.omf_order.specs.declared.parts.Part as held
use Rattle.omf_order.specs.Keys.{selects, key_by}
use Rattle.omf_order.specs.Plan.{is_in_group, is_of}
use Rattle.omf_order.specs.inside.Held.{is_found, part_view, parts_view, selector_view}
use Rattle.omf_order.proofs.Found.{found}

pub map_place : {A B : Type 0} (f : A → B) (p : B → Bool) (xs : List A)
    → position_or_len p (map f xs) ≡ position_or_len (λ x. p (f x)) xs
map_place f p [] = refl
map_place f p (x ∷ xs) = ap (λ n. cond (not (p (f x))) (1 + n) 0) (map_place f p xs)

pub same_places : {X : Type 0} (p q : X → Bool) (xs : List X) → ((x : X) → p x ≡ q x)
    → position_or_len p xs ≡ position_or_len q xs
same_places p q [] is = refl
same_places p q (x ∷ xs) is = rw (is x, same_places p q xs is) refl

-- a test of views
pub any_viewed : {A B : Type 0} (view : A → B) (p : B → Bool) (xs : List A)
    → list_any p (map view xs) ≡ list_any (λ x. p (view x)) xs
any_viewed view p [] = refl
any_viewed view p (x ∷ xs) = ap (λ b. p (view x) || b) (any_viewed view p xs)

pub position_viewed : {A B : Type 0} (view : A → B) (p : B → Bool) (xs : List A)
    → position p (map view xs) ≡ position (λ x. p (view x)) xs
position_viewed view p xs =
    ap (λ n. cond (ltb n (length (map view xs))) (Some n) None) (map_place view p xs)
    ∙ ap (λ m. cond (ltb (position_or_len (λ x. p (view x)) xs) m) (Some (position_or_len (λ x. p (view x)) xs)) None)
    (length-map xs view)

-- ---- parts of a class

or_true : (b : Bool) → (b || true) ≡ true
or_true true = refl
or_true false = refl

or_false : (b : Bool) → (b || false) ≡ b
or_false true = refl
or_false false = refl

position_same : {X : Type 0} (p q : X → Bool) (xs : List X) → ((x : X) → p x ≡ q x) → position p xs ≡ position q xs
position_same p q xs h = ap (λ n. cond (ltb n (length xs)) (Some n) None) (same_places p q xs h)

pub found_in_group : (class : List ℕ) (ps : List held.Part)
    → position (λ p. is_found true class (part_view p)) ps ≡ position (is_in_group class) (parts_view ps)
found_in_group class ps =
    position_same (λ p. is_found true class (part_view p)) (λ p. is_in_group class (part_view p)) ps
    (λ p. ap (λ b. b && bytes_eq p.class.now class) (or_false p.in_group))
    ∙ sym (position_viewed part_view (is_in_group class) ps)

pub found_of_class : (class : List ℕ) (ps : List held.Part)
    → position (λ p. is_found false class (part_view p)) ps ≡ position (is_of class) (parts_view ps)
found_of_class class ps =
    position_same (λ p. is_found false class (part_view p)) (λ p. is_of class (part_view p)) ps
    (λ p. ap (λ b. b && bytes_eq p.class.now class) (or_true p.in_group))
    ∙ sym (position_viewed part_view (is_of class) ps)

-- something is found where there is a place
pub is_some_position : {X : Type 0} (p : X → Bool) (xs : List X) → is_some (position p xs) ≡ list_any p xs
is_some_position p xs = some_if (ltb (position_or_len p xs) (length xs)) (position_or_len p xs) ∙ found p xs
  where
    some_if : (b : Bool) (n : ℕ) → is_some (cond b (Some n) None) ≡ b
    some_if true n = refl
    some_if false n = refl

-- ---- the place of the first, or the number of all

place_within : {X : Type 0} (p : X → Bool) (xs : List X) → position_or_len p xs ≤ length xs
place_within p [] = omega arith
place_within p (x ∷ xs) = elim (p x) as (λ b. cond (not b) (1 + position_or_len p xs) 0 ≤ suc (length xs)) [
  | true ↦ omega arith
  | false ↦ omega (arith, place_within p xs)
]

pub place_or_len : {X : Type 0} (p : X → Bool) (xs : List X)
    → unwrap_or (position p xs) (length xs) ≡ position_or_len p xs
place_or_len p xs =
    (elim (ltb (position_or_len p xs) (length xs)) as (λ b.
    ltb (position_or_len p xs) (length xs) ≡ b
    → unwrap_or (cond b (Some (position_or_len p xs)) None) (length xs) ≡ position_or_len p xs) [
      | true ↦ λ e. refl
      | false ↦ λ e. let l = ltb-false _ _ e in let m = place_within p xs in omega (arith, l, m)
    ]) refl

-- the first that passes one of two tests
min_places : {X : Type 0} (p q r : X → Bool) (xs : List X) → ((x : X) → r x ≡ (p x || q x))
    → min (position_or_len p xs) (position_or_len q xs) ≡ position_or_len r xs
min_places p q r [] is = refl
min_places p q r (x ∷ xs) is =
    let more : min (position_or_len p xs) (position_or_len q xs) ≡ position_or_len r xs = min_places p q r xs is in
    (elim (p x) as (λ a.
    min (cond (not a) (1 + position_or_len p xs) 0) (cond (not (q x)) (1 + position_or_len q xs) 0)
    ≡ cond (not (a || q x)) (1 + position_or_len r xs) 0) [
      | true ↦ omega arith
      | false ↦ elim (q x) as (λ b.
          min (1 + position_or_len p xs) (cond (not b) (1 + position_or_len q xs) 0)
          ≡ cond (not b) (1 + position_or_len r xs) 0) [
            | true ↦ omega arith
            | false ↦ omega (arith, more)
          ]
    ])
    ∙ ap (λ b. cond (not b) (1 + position_or_len r xs) 0) (sym (is x))

-- what selects all of a class, and what selects those of a name in it
abbrev pub whole_of : held.Part → Selector
whole_of p = record { class = p.class; segment = None }

abbrev pub named_of : held.Part → Selector
named_of p = record { class = p.class; segment = Some p.name }

by_segment : (P : Option (Bor (List ℕ)) → Type 0) → P None → ((n : Bor (List ℕ)) → P (Some n))
    → (o : Option (Bor (List ℕ))) → P o
by_segment P none some None = none
by_segment P none some (Some n) = some n

-- two names of segments are one
abbrev pub same_segment : Option (Bor (List ℕ)) → Option (Bor (List ℕ)) → Bool
same_segment a b = option_eq (λ x y. bytes_eq x.now y.now) a b

-- a part is selected by one of the two
selected : (p : held.Part) (s : Selector)
    → selects (part_view p) (selector_view s)
    ≡ ((bytes_eq p.class.now s.class.now && same_segment None s.segment)
    || (bytes_eq p.class.now s.class.now && same_segment (Some p.name) s.segment))
selected p s =
    by_segment (λ o.
    (bytes_eq p.class.now s.class.now
    && option_map_or (λ name. bytes_eq p.name.now name) (option_map (λ n. n.now) o) true)
    ≡ ((bytes_eq p.class.now s.class.now && same_segment None o)
    || (bytes_eq p.class.now s.class.now && same_segment (Some p.name) o)))
    (elim (bytes_eq p.class.now s.class.now) as (λ b. (b && true) ≡ ((b && true) || (b && false))) [
      | true ↦ refl
      | false ↦ refl
    ])
    (λ n.
    elim (bytes_eq p.class.now s.class.now) as (λ b.
    (b && bytes_eq p.name.now n.now) ≡ ((b && false) || (b && bytes_eq p.name.now n.now))) [
      | true ↦ refl
      | false ↦ refl
    ]) s.segment

-- the key of a part by what the code holds of a list
pub listed_place : (eq : Selector → Selector → Bool) →
    ((x y : Selector) → eq x y ≡ (bytes_eq x.class.now y.class.now && same_segment x.segment y.segment)) →
    (all : List Selector) (p : held.Part) →
    min (position_or_len (eq (whole_of p)) all) (position_or_len (eq (named_of p)) all)
    ≡ key_by (map selector_view all) (part_view p)
listed_place eq is all p =
    min_places (eq (whole_of p)) (eq (named_of p)) (λ s. selects (part_view p) (selector_view s)) all
    (λ s. rw (is (whole_of p) s, is (named_of p) s) (selected p s))
    ∙ sym (map_place selector_view (selects (part_view p)) all)
