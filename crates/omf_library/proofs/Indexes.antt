-- Externals and those with a default as the code holds them.
use Rattle.std.proofs.Common.{◌≡◌, ℕ, zero, suc, ◌+◌, ◌-◌, ◌==◌, ◌≢◌, ◌<◌, ◌≤◌, Bool, true, false, not, ◌&&◌, ◌||◌}
use Rattle.std.proofs.Common.{cond, take, ◌++◌, length-take}
use Rattle.std.proofs.lemmas.List.{length-map, map-append, take_more}
use Rattle.std.proofs.lemmas.List.Folds.{list_any-append}
use Rattle.std.specs.Cmp.Lexicographic.{nat_list_eq_equiv, slice_cmp, texts_ties}
use Rattle.std.specs.Ordering.{is_eq, nat_cmp}
use Rattle.omf_library.specs.Defaults as spec
use Rattle.omf_library.specs.Said.{defaulted_said}
use Rattle.omf_library.specs.inside.Others.{has_name_at, other_name}
use Rattle.std.proofs.Common.{List, [], ◌∷◌, length, get_or, slice_get, Some, None, refl, sym, ap, ap₂, ◌∙◌}
use Rattle.std.proofs.Common.{arith}
use Rattle.std.specs.declared.option.Option.{Option}
use Rattle.std.specs.Borrow.{Bor}
use Rattle.std.specs.List.{list_any}
use Rattle.std.specs.Option.{option_map, option_map_or}
use Rattle.std.specs.Slice.{IsItemAt}
use Rattle.std.specs.Str.{bytes_eq}
use Rattle.omf_library.specs.declared.defaults.Defaulted.{Defaulted}
use Rattle.omf_library.specs.Said.{all_defaulted, bytes_said}
use Rattle.omf_library.specs.Said.{externals_said}
use Rattle.omf_library.specs.Defaults.{external_at, has_other, is_index_of, is_name_of, is_named}
use Rattle.omf_library.specs.Defaults.{is_theirs}

-- a name is that of one of them
pub name-said : (marked : List Defaulted) (name : List ℕ)
    → list_any (λ (one : Defaulted). bytes_eq one.name.now name) marked ≡ is_name_of (all_defaulted marked) name
name-said [] name = refl
name-said (d ∷ ds) name = ap (λ b. bytes_eq d.name.now name || b) (name-said ds name)

-- an index is that of one of them
pub index-said : (marked : List Defaulted) (index : ℕ)
    → list_any (λ (one : Defaulted). one.index == index) marked ≡ is_index_of (all_defaulted marked) index
index-said [] index = refl
index-said (d ∷ ds) index = ap (λ b. (d.index == index) || b) (index-said ds index)

-- ---- the external of an index

at-some : (externals : List (Option (Bor (List ℕ)))) (k : ℕ) (x : Option (Bor (List ℕ))) → k < length externals
    → x ≡ get_or externals k x → slice_get (externals_said externals) k ≡ Some (bytes_said x)
at-some [] k x within e = absurd (omega arith)
at-some (y ∷ ys) zero x within e = ap (λ o. Some (bytes_said o)) (sym e)
at-some (y ∷ ys) (suc k) x within e = at-some ys k x (omega arith) e

at-none : (externals : List (Option (Bor (List ℕ)))) (k : ℕ) → length externals ≤ k
    → slice_get (externals_said externals) k ≡ None
at-none [] k past = refl
at-none (y ∷ ys) zero past = absurd (omega arith)
at-none (y ∷ ys) (suc k) past = at-none ys k (omega arith)

-- what a look-up finds
pub at-item : (externals : List (Option (Bor (List ℕ)))) (k : ℕ) (r : Option (Bor (Option (Bor (List ℕ)))))
    → IsItemAt externals k r
    → slice_get (externals_said externals) k
    ≡ option_map (λ (x : Bor (Option (Bor (List ℕ)))). bytes_said x.now) r
at-item externals k None item = at-none externals k item.3
at-item externals k (Some x) item = at-some externals k x.now item.3.0 item.1

-- an index counts from 1 on
pub external-is : (externals : List (Option (Bor (List ℕ)))) (i k : ℕ) → i ≢ 0 → k ≡ i - 1
    → external_at (externals_said externals) i ≡ slice_get (externals_said externals) k
external-is externals zero k some e = absurd (some refl)
external-is externals (suc before) k some e =
    let same : k ≡ before = omega (arith, e) in
    ap (λ n. slice_get (externals_said externals) n) (sym same)

-- ---- sets of them

set-turn : (hit was : Bool) (some any : Bool) → was ≡ any → hit ≡ some → cond hit true was ≡ (any || (some || false))
set-turn true was some any w h = at some any h
  where
    at : (some any : Bool) → true ≡ some → true ≡ (any || (some || false))
    at true true h = refl
    at true false h = refl
    at false any h = let z : ⊥ = cc in absurd z
set-turn false was some any w h = w ∙ at some any h
  where
    at : (some any : Bool) → false ≡ some → any ≡ (any || (some || false))
    at false true h = refl
    at false false h = refl
    at true any h = let z : ⊥ = cc in absurd z

-- names are one where they compare as equal
same-bytes : (x y : List ℕ) → is_eq (slice_cmp nat_cmp x y) ≡ bytes_eq x y
same-bytes x y = sym (texts_ties x y)

pub names-turn : (marked : List Defaulted) (i : ℕ) (d : Defaulted) (q : List ℕ) (was now : Bool) → i < length marked
    → was ≡ is_name_of (all_defaulted (take i marked)) q
    → now ≡ cond (is_eq (slice_cmp nat_cmp (get_or marked i d).name.now q)) true was
    → now ≡ is_name_of (all_defaulted (take (i + 1) marked)) q
names-turn marked i d q was now h before is =
    let x = get_or marked i d in
    let test = λ (one : spec.Defaulted). bytes_eq one.name q in
    is
    ∙ set-turn (is_eq (slice_cmp nat_cmp x.name.now q)) was (bytes_eq x.name.now q)
    (is_name_of (all_defaulted (take i marked)) q) before (same-bytes x.name.now q)
    ∙ sym (ap (λ l. is_name_of (all_defaulted l) q) (take_more marked i d h)
    ∙ ap (λ l. is_name_of l q) (map-append defaulted_said (take i marked) (x ∷ []))
    ∙ list_any-append test (all_defaulted (take i marked)) (defaulted_said x ∷ []))

-- ---- the names of others

has-name-append : (is_marked : ℕ → Bool) (name : List ℕ) (k : ℕ) (xs : List (Option (List ℕ))) (x : Option (List ℕ))
    → has_name_at is_marked name k (xs ++ x ∷ [])
    ≡ (has_name_at is_marked name k xs || ((is_named name x && not (is_marked (k + length xs))) || false))
has-name-append is_marked name k [] x =
    let e : k ≡ k + 0 = omega arith in
    ap (λ n. (is_named name x && not (is_marked n)) || false) e
has-name-append is_marked name k (y ∷ ys) x =
    let e : (k + 1) + length ys ≡ k + length (y ∷ ys) = omega arith in
    ap (λ b. (is_named name y && not (is_marked k)) || b)
    (has-name-append is_marked name (k + 1) ys x
    ∙ ap (λ n. has_name_at is_marked name (k + 1) ys || ((is_named name x && not (is_marked n)) || false)) e)
    ∙ joined (is_named name y && not (is_marked k)) (has_name_at is_marked name (k + 1) ys)
    ((is_named name x && not (is_marked (k + length (y ∷ ys)))) || false)
  where
    joined : (a b c : Bool) → (a || (b || c)) ≡ ((a || b) || c)
    joined true b c = refl
    joined false b c = refl

length-said : (externals : List (Option (Bor (List ℕ)))) (i : ℕ) → i < length externals
    → 1 + length (externals_said (take i externals)) ≡ i + 1
length-said externals i h = omega (arith, length-map (take i externals) bytes_said, length-take i externals)

other-more : (is_marked : ℕ → Bool) (name : List ℕ) (externals : List (Option (Bor (List ℕ)))) (i : ℕ)
    (d : Option (Bor (List ℕ))) → i < length externals
    → has_name_at is_marked name 1 (externals_said (take (i + 1) externals))
    ≡ (has_name_at is_marked name 1 (externals_said (take i externals))
    || ((is_named name (bytes_said (get_or externals i d)) && not (is_marked (i + 1))) || false))
other-more is_marked name externals i d h =
    let x = get_or externals i d in
    ap (λ l. has_name_at is_marked name 1 (externals_said l)) (take_more externals i d h)
    ∙ ap (has_name_at is_marked name 1) (map-append bytes_said (take i externals) (x ∷ []))
    ∙ has-name-append is_marked name 1 (externals_said (take i externals)) (bytes_said x)
    ∙ ap (λ n. has_name_at is_marked name 1 (externals_said (take i externals))
    || ((is_named name (bytes_said x) && not (is_marked n)) || false)) (length-said externals i h)

kept-by : (marked : Bool) (x : Option (List ℕ)) (name : List ℕ)
    → (is_named name x && not marked) ≡ option_map_or (bytes_eq name) (other_name marked x) false
kept-by true None name = refl
kept-by true (Some x) name = and-false (bytes_eq name x)
  where
    and-false : (b : Bool) → (b && false) ≡ false
    and-false true = refl
    and-false false = refl
kept-by false None name = refl
kept-by false (Some x) name = and-true (bytes_eq name x)
  where
    and-true : (b : Bool) → (b && true) ≡ b
    and-true true = refl
    and-true false = refl

-- one more external that has no name of its own here
pub others-same : (is_marked : ℕ → Bool) (name : List ℕ) (externals : List (Option (Bor (List ℕ)))) (i : ℕ)
    (d : Option (Bor (List ℕ))) (was : Bool) → i < length externals
    → other_name (is_marked (i + 1)) (bytes_said (get_or externals i d)) ≡ None
    → was ≡ has_name_at is_marked name 1 (externals_said (take i externals))
    → was ≡ has_name_at is_marked name 1 (externals_said (take (i + 1) externals))
others-same is_marked name externals i d was h none before =
    let x = bytes_said (get_or externals i d) in
    before ∙ or-false (has_name_at is_marked name 1 (externals_said (take i externals)))
    ∙ ap (λ o. has_name_at is_marked name 1 (externals_said (take i externals))
    || (option_map_or (bytes_eq name) o false || false)) (sym none)
    ∙ ap (λ b. has_name_at is_marked name 1 (externals_said (take i externals)) || (b || false))
    (sym (kept-by (is_marked (i + 1)) x name))
    ∙ sym (other-more is_marked name externals i d h)
  where
    or-false : (b : Bool) → b ≡ (b || false)
    or-false true = refl
    or-false false = refl

-- one more that has
pub others-named : (is_marked : ℕ → Bool) (name other : List ℕ) (externals : List (Option (Bor (List ℕ)))) (i : ℕ)
    (d : Option (Bor (List ℕ))) (was now : Bool) → i < length externals
    → other_name (is_marked (i + 1)) (bytes_said (get_or externals i d)) ≡ Some other
    → was ≡ has_name_at is_marked name 1 (externals_said (take i externals))
    → now ≡ cond (is_eq (slice_cmp nat_cmp other name)) true was
    → now ≡ has_name_at is_marked name 1 (externals_said (take (i + 1) externals))
others-named is_marked name other externals i d was now h some before is =
    let x = bytes_said (get_or externals i d) in
    is
    ∙ set-turn (is_eq (slice_cmp nat_cmp other name)) was (bytes_eq name other)
    (has_name_at is_marked name 1 (externals_said (take i externals))) before
    (same-bytes other name ∙ nat_list_eq_equiv.symm other name)
    ∙ ap (λ o. has_name_at is_marked name 1 (externals_said (take i externals))
    || (option_map_or (bytes_eq name) o false || false)) (sym some)
    ∙ ap (λ b. has_name_at is_marked name 1 (externals_said (take i externals)) || (b || false))
    (sym (kept-by (is_marked (i + 1)) x name))
    ∙ sym (other-more is_marked name externals i d h)

-- with indexes that are those of some externals
pub others-of : (is_marked : ℕ → Bool) (marked : List spec.Defaulted) → ((i : ℕ) → is_marked i ≡ is_index_of marked i)
    → (name : List ℕ) (k : ℕ) (externals : List (Option (List ℕ)))
    → has_name_at is_marked name k externals ≡ has_other marked name k externals
others-of is_marked marked same name k [] = refl
others-of is_marked marked same name k (x ∷ xs) =
    ap₂ (λ a b. (is_named name x && not a) || b) (same k) (others-of is_marked marked same name (k + 1) xs)
