-- Texts that are made of the items of a list, one behind the other.
use Rattle.std.proofs.Common.{◌≡◌, ℕ, ◌+◌, ◌<◌, ◌≤◌, List, ◌∷◌, ◌++◌, length, map, drop}
use Rattle.std.proofs.Common.{get_or, sym, ap, ◌∙◌, add-one, append_assoc, append-nil, if◌then◌else◌, Ok, Err}
use Rattle.std.proofs.Common.{OnOk, Result}
use Rattle.std.proofs.Common.{[], All, zero, suc, arith, Some, map-id, zero-add, slice_get}
use Rattle.std.proofs.lemmas.List.{flat_map_more}
use Rattle.std.proofs.lemmas.List.Elements.{All-nil, All-append}
use Rattle.std.proofs.lemmas.List.FromFn.{map-range_with_len_more}
use Rattle.std.specs.List.{range_with_len}
use Rattle.std.specs.Result.{is_ok}
use Rattle.omf_module.proofs.Lists.{drop_at_some}
use Rattle.std.proofs.Math.ListN.{drop_of_length-le}
use Rattle.std.proofs.Math.Seq.{drop-cons}
use Rattle.std.proofs.lemmas.List.Folds.{flat_map-map}
use Rattle.std.specs.List.{flat_map}

-- ---- each item makes a text

-- the items from one on are that one and those behind it
drop-one : {X : Type 0} (xs : List X) (i : ℕ) (d : X) → i < length xs → drop i xs ≡ get_or xs i d ∷ drop (i + 1) xs
drop-one xs i d h = drop-cons xs i d h ∙ ap (λ k. get_or xs i d ∷ drop k xs) (sym (add-one i))

pub all-more : {Y Z : Type 0} (f : Y → List Z) (ys : List Y) (i : ℕ) (d : Y) (old new goal : List Z) → i < length ys
    → new ≡ old ++ f (get_or ys i d) → old ++ flat_map f (drop i ys) ≡ goal
    → new ++ flat_map f (drop (i + 1) ys) ≡ goal
all-more f ys i d old new goal h added before =
    ap (λ l. l ++ flat_map f (drop (i + 1) ys)) added
    ∙ append_assoc old (f (get_or ys i d)) (flat_map f (drop (i + 1) ys))
    ∙ ap (λ l. old ++ flat_map f l) (sym (drop-one ys i d h)) ∙ before

pub all-done : {Y Z : Type 0} (f : Y → List Z) (ys : List Y) (i : ℕ) (old goal : List Z) → length ys ≤ i
    → old ++ flat_map f (drop i ys) ≡ goal → old ≡ goal
all-done f ys i old goal h before =
    sym (append-nil old) ∙ ap (λ l. old ++ flat_map f l) (sym (drop_of_length-le ys h)) ∙ before

-- the same, where the text is told of the items by what they say
pub all-said : {X Y Z : Type 0} (f : Y → List Z) (says : X → Y) (xs : List X) (i : ℕ) (old first : List Z)
    → length xs ≤ i
    → old ++ flat_map (λ x. f (says x)) (drop i xs) ≡ first ++ flat_map (λ x. f (says x)) xs
    → old ≡ first ++ flat_map f (map says xs)
all-said f says xs i old first h before =
    all-done (λ x. f (says x)) xs i old _ h before ∙ ap (λ l. first ++ l) (sym (flat_map-map f says xs))

-- ---- texts appended one behind the other

-- a text was appended, and where all goes well another one behind it
pub then-ok : {X E : Type 0} (r : Result X E) (s0 s1 s2 a b : List ℕ) → s1 ≡ s0 ++ a → OnOk r (s2 ≡ s1 ++ b)
    → OnOk r (s2 ≡ s0 ++ (a ++ b))
then-ok (Ok x) s0 s1 s2 a b p q = q ∙ ap (λ l. l ++ b) p ∙ append_assoc s0 a b
then-ok (Err e) s0 s1 s2 a b p q = tt

-- a vector that was extended, where there was room
pub extended-ok : {X E : Type 0} (r : Result X E) (old new text : List ℕ)
    → new ≡ (if is_ok r then old ++ text else old) → OnOk r (new ≡ old ++ text)
extended-ok (Ok x) old new text p = p
extended-ok (Err e) old new text p = tt

-- the same, where an item is looked up
pub seen-more : {Y Z : Type 0} (f : Y → List Z) (ys : List Y) (i : ℕ) (y : Y) (old new goal : List Z)
    → slice_get ys i ≡ Some y → new ≡ old ++ f y → old ++ flat_map f (drop i ys) ≡ goal
    → new ++ flat_map f (drop (i + 1) ys) ≡ goal
seen-more f ys i y old new goal is added before =
    ap (λ l. l ++ flat_map f (drop (i + 1) ys)) added
    ∙ append_assoc old (f y) (flat_map f (drop (i + 1) ys))
    ∙ ap (λ l. old ++ flat_map f l) (sym (drop_at_some ys i y is)) ∙ before

-- numbers from 0 on
pub counted-more : {Z : Type 0} (f : ℕ → List Z) (i : ℕ) (first old new : List Z) → new ≡ old ++ f i
    → old ≡ first ++ flat_map f (range_with_len 0 i) → new ≡ first ++ flat_map f (range_with_len 0 (i + 1))
counted-more f i first old new added before =
    added ∙ ap (λ l. l ++ f i) before ∙ flat_map_more f first (range_with_len 0 i) i
    ∙ ap (λ l. first ++ flat_map f l) (sym (sym (map-id (range_with_len 0 (i + 1)))
    ∙ map-range_with_len_more (λ x. x) 0 i i (zero-add i)
    ∙ ap (λ l. l ++ i ∷ []) (map-id (range_with_len 0 i))))

-- ---- each item makes one

pub mapped-more : {Y Z : Type 0} (f : Y → Z) (ys : List Y) (i : ℕ) (d : Y) (old new goal : List Z) → i < length ys
    → new ≡ old ++ f (get_or ys i d) ∷ [] → old ++ map f (drop i ys) ≡ goal → new ++ map f (drop (i + 1) ys) ≡ goal
mapped-more f ys i d old new goal h added before =
    ap (λ l. l ++ map f (drop (i + 1) ys)) added
    ∙ append_assoc old (f (get_or ys i d) ∷ []) (map f (drop (i + 1) ys))
    ∙ ap (λ l. old ++ map f l) (sym (drop-one ys i d h)) ∙ before

pub mapped-done : {Y Z : Type 0} (f : Y → Z) (ys : List Y) (i : ℕ) (old goal : List Z) → length ys ≤ i
    → old ++ map f (drop i ys) ≡ goal → old ≡ goal
mapped-done f ys i old goal h before =
    sym (append-nil old) ∙ ap (λ l. old ++ map f l) (sym (drop_of_length-le ys h)) ∙ before

-- ---- what holds of the items

-- those that numbers make
pub all-counted : {Z : Type 0} (P : Z → Type 0) (f : ℕ → List Z) (i n : ℕ)
    → ((k : ℕ) → i ≤ k → k < i + n → All P (f k)) → All P (flat_map f (range_with_len i n))
all-counted P f i zero each = All-nil P
all-counted P f i (suc n) each =
    All-append P (f i) (flat_map f (range_with_len (i + 1) n)) (each i (omega arith) (omega arith))
    (all-counted P f (i + 1) n (λ k a b. each k (omega (arith, a)) (omega (arith, b))))
