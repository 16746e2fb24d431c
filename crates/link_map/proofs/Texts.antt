-- Texts that are made of the items of a list, one behind the other.
use Rattle.std.proofs.Common.{◌≡◌, ℕ, ◌+◌, ◌<◌, ◌≤◌, List, [], ◌∷◌, ◌++◌, length, drop, get_or, refl, sym, ap, ◌∙◌}
use Rattle.std.proofs.Common.{map}
use Rattle.std.proofs.Common.{append_assoc, append-nil, add-one, if◌then◌else◌, Ok, Err, OnOk, Result}
use Rattle.std.specs.Result.{is_ok}
use Rattle.std.proofs.Math.ListN.{drop_of_length-le}
use Rattle.std.proofs.Math.Seq.{drop-cons}
use Rattle.std.specs.List.{enumerate_from, flat_map}

pub drop-one : {Y : Type 0} (ys : List Y) (i : ℕ) (d : Y) → i < length ys → drop i ys ≡ get_or ys i d ∷ drop (i + 1) ys
drop-one ys i d h = drop-cons ys i d h ∙ ap (λ k. get_or ys i d ∷ drop k ys) (sym (add-one i))

-- what one item makes was appended; `rest` is what the items from one on make
text-step : {Y Z : Type 0} (rest : ℕ → List Y → List Z) (one : List Z) (ys : List Y) (i : ℕ) (d : Y)
    (old new goal : List Z) → i < length ys
    → rest i (get_or ys i d ∷ drop (i + 1) ys) ≡ one ++ rest (i + 1) (drop (i + 1) ys)
    → new ≡ old ++ one → old ++ rest i (drop i ys) ≡ goal → new ++ rest (i + 1) (drop (i + 1) ys) ≡ goal
text-step rest one ys i d old new goal h splits added before =
    ap (λ l. l ++ rest (i + 1) (drop (i + 1) ys)) added ∙ append_assoc old one (rest (i + 1) (drop (i + 1) ys))
    ∙ ap (λ l. old ++ l) (sym splits) ∙ ap (λ l. old ++ rest i l) (sym (drop-one ys i d h)) ∙ before

-- nothing is left
text-done : {Y Z : Type 0} (rest : ℕ → List Y → List Z) (ys : List Y) (i : ℕ) (old goal : List Z)
    → length ys ≤ i → rest i [] ≡ [] → old ++ rest i (drop i ys) ≡ goal → old ≡ goal
text-done rest ys i old goal h empty before =
    sym (append-nil old) ∙ ap (λ l. old ++ l) (sym empty)
    ∙ ap (λ l. old ++ rest i l) (sym (drop_of_length-le ys h)) ∙ before

-- ---- each item makes a text

pub all-more : {Y Z : Type 0} (f : Y → List Z) (ys : List Y) (i : ℕ) (d : Y) (old new goal : List Z) → i < length ys
    → new ≡ old ++ f (get_or ys i d) → old ++ flat_map f (drop i ys) ≡ goal
    → new ++ flat_map f (drop (i + 1) ys) ≡ goal
all-more f ys i d old new goal h added before =
    text-step (λ n l. flat_map f l) (f (get_or ys i d)) ys i d old new goal h refl added before

pub all-done : {Y Z : Type 0} (f : Y → List Z) (ys : List Y) (i : ℕ) (old goal : List Z) → length ys ≤ i
    → old ++ flat_map f (drop i ys) ≡ goal → old ≡ goal
all-done f ys i old goal h before = text-done (λ n l. flat_map f l) ys i old goal h refl before

-- ---- each item makes a text with its index

pub each-more : {Y Z : Type 0} (f : ℕ × Y → List Z) (ys : List Y) (i : ℕ) (d : Y) (old new goal : List Z)
    → i < length ys → new ≡ old ++ f (i, get_or ys i d) → old ++ flat_map f (enumerate_from i (drop i ys)) ≡ goal
    → new ++ flat_map f (enumerate_from (i + 1) (drop (i + 1) ys)) ≡ goal
each-more f ys i d old new goal h added before =
    text-step (λ n l. flat_map f (enumerate_from n l)) (f (i, get_or ys i d)) ys i d old new goal h refl added before

pub each-done : {Y Z : Type 0} (f : ℕ × Y → List Z) (ys : List Y) (i : ℕ) (old goal : List Z) → length ys ≤ i
    → old ++ flat_map f (enumerate_from i (drop i ys)) ≡ goal → old ≡ goal
each-done f ys i old goal h before = text-done (λ n l. flat_map f (enumerate_from n l)) ys i old goal h refl before

-- ---- each item makes one with its index

pub mapped-more : {Y Z : Type 0} (f : ℕ × Y → Z) (ys : List Y) (i : ℕ) (d : Y) (old new goal : List Z) → i < length ys
    → new ≡ old ++ f (i, get_or ys i d) ∷ [] → old ++ map f (enumerate_from i (drop i ys)) ≡ goal
    → new ++ map f (enumerate_from (i + 1) (drop (i + 1) ys)) ≡ goal
mapped-more f ys i d old new goal h added before =
    text-step (λ n l. map f (enumerate_from n l)) (f (i, get_or ys i d) ∷ []) ys i d old new goal h refl added before

pub mapped-done : {Y Z : Type 0} (f : ℕ × Y → Z) (ys : List Y) (i : ℕ) (old goal : List Z) → length ys ≤ i
    → old ++ map f (enumerate_from i (drop i ys)) ≡ goal → old ≡ goal
mapped-done f ys i old goal h before = text-done (λ n l. map f (enumerate_from n l)) ys i old goal h refl before

-- ---- texts appended one behind the other

-- a text was appended, and where all goes well another one behind it
pub then-ok : {X E : Type 0} (r : Result X E) (s0 s1 s2 a b : List ℕ) → s1 ≡ s0 ++ a → OnOk r (s2 ≡ s1 ++ b)
    → OnOk r (s2 ≡ s0 ++ (a ++ b))
then-ok (Ok x) s0 s1 s2 a b p q = q ∙ ap (λ l. l ++ b) p ∙ append_assoc s0 a b
then-ok (Err e) s0 s1 s2 a b p q = tt

-- a vector that was extended, where there was room
pub extended-ok : {X E : Type 0} (r : Result X E) (old new text : List ℕ)
    → new ≡ (if is_ok r then old ++ text else old) → OnOk r (new ≡ old ++ text)
extended-ok (Ok x) old new text p = p
extended-ok (Err e) old new text p = tt
