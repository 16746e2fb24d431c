-- Texts that are made of the items of a list, one behind the other.
use Rattle.std.proofs.Common.{◌≡◌, ℕ, ◌+◌, ◌<◌, ◌≤◌, List, ◌∷◌, ◌++◌, length, map, drop}
use Rattle.std.proofs.Common.{get_or, sym, ap, ◌∙◌, add-one, append_assoc, append-nil, if◌then◌else◌, Ok, Err}
use Rattle.std.proofs.Common.{OnOk, Result}
use Rattle.std.specs.Result.{is_ok}
use Rattle.std.proofs.Math.ListN.{drop_of_length-le}
use Rattle.std.proofs.Math.Seq.{drop-cons}
use Rattle.std.proofs.lemmas.List.Folds.{flat_map-map}
use Rattle.std.specs.List.{flat_map}

-- ---- each item makes a text

-- the items from one on are that one and those behind it
drop-one : {X : Type 0} (xs : List X) (i : ℕ) (d : X) → i < length xs → drop i xs ≡ get_or xs i d ∷ drop (i + 1) xs
drop-one xs i d h = drop-cons xs i d h ∙ ap (λ k. get_or xs i d ∷ drop k xs) (sym (add-one i))

pub all-more : {Y Z : Type 0} (f : Y → List Z) (ys : List Y) (i : ℕ) (d : Y) (old new goal : List Z) → i < length ys
    → new ≡ old ++ f (get_or ys i d) → old ++ flat_map f (drop i ys) ≡ goal
    → new ++ flat_map f (drop (i + 1) ys) ≡ goal
all-more f ys i d old new goal h added before =
    ap (λ l. l ++ flat_map f (drop (i + 1) ys)) added
    ∙ append_assoc old (f (get_or ys i d)) (flat_map f (drop (i + 1) ys))
    ∙ ap (λ l. old ++ flat_map f l) (sym (drop-one ys i d h)) ∙ before

pub all-done : {Y Z : Type 0} (f : Y → List Z) (ys : List Y) (i : ℕ) (old goal : List Z) → length ys ≤ i
    → old ++ flat_map f (drop i ys) ≡ goal → old ≡ goal
all-done f ys i old goal h before =
    sym (append-nil old) ∙ ap (λ l. old ++ flat_map f l) (sym (drop_of_length-le ys h)) ∙ before

-- the same, where the text is told of the items by what they say
pub all-said : {X Y Z : Type 0} (f : Y → List Z) (says : X → Y) (xs : List X) (i : ℕ) (old first : List Z)
    → length xs ≤ i
    → old ++ flat_map (λ x. f (says x)) (drop i xs) ≡ first ++ flat_map (λ x. f (says x)) xs
    → old ≡ first ++ flat_map f (map says xs)
all-said f says xs i old first h before =
    all-done (λ x. f (says x)) xs i old _ h before ∙ ap (λ l. first ++ l) (sym (flat_map-map f says xs))

-- ---- texts appended one behind the other

-- a text was appended, and where all goes well another one behind it
pub then-ok : {X E : Type 0} (r : Result X E) (s0 s1 s2 a b : List ℕ) → s1 ≡ s0 ++ a → OnOk r (s2 ≡ s1 ++ b)
    → OnOk r (s2 ≡ s0 ++ (a ++ b))
then-ok (Ok x) s0 s1 s2 a b p q = q ∙ ap (λ l. l ++ b) p ∙ append_assoc s0 a b
then-ok (Err e) s0 s1 s2 a b p q = tt

-- a vector that was extended, where there was room
pub extended-ok : {X E : Type 0} (r : Result X E) (old new text : List ℕ)
    → new ≡ (if is_ok r then old ++ text else old) → OnOk r (new ≡ old ++ text)
extended-ok (Ok x) old new text p = p
extended-ok (Err e) old new text p = tt
