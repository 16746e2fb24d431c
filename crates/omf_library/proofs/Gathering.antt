-- What the elements of a list give, one behind the other.
use Rattle.std.proofs.Common.{◌≡◌, ℕ, ◌+◌, ◌<◌, ◌≤◌, Bool, true, false, List, [], ◌∷◌, ◌++◌, length, map, take, drop}
use Rattle.std.proofs.Common.{filter, get_or, cond, sym, ap, ap₂, ◌∙◌, append_assoc, add-one}
use Rattle.std.proofs.Math.ListN.{drop_of_length-le}
use Rattle.std.proofs.Math.Seq.{drop-cons}
use Rattle.std.proofs.lemmas.Grind.{flat_map-append}
use Rattle.std.proofs.lemmas.List.{append-nil, map-append, take_more}
use Rattle.std.proofs.lemmas.List.Elements.{filter-append}
use Rattle.std.specs.List.{flat_map}
use Rattle.omf_frame.specs.Frame.{Frame}
use Rattle.omf_library.specs.Listed.{listed_in, said_by}

-- the elements from one on are that one and those behind it
pub drop-one : {X : Type 0} (xs : List X) (i : ℕ) (x : X) → i < length xs → x ≡ get_or xs i x
    → drop i xs ≡ x ∷ drop (i + 1) xs
drop-one xs i x h is =
    drop-cons xs i x h ∙ ap (λ k. get_or xs i x ∷ drop k xs) (sym (add-one i))
    ∙ ap (λ y. y ∷ drop (i + 1) xs) (sym is)

-- one more of the elements, under a map
pub map-turn : {X Y : Type 0} (f : X → Y) (xs : List X) (i : ℕ) (x : X) → i < length xs → x ≡ get_or xs i x
    → map f (take (i + 1) xs) ≡ map f (take i xs) ++ f x ∷ []
map-turn f xs i x h is =
    ap (map f) (take_more xs i x h) ∙ map-append f (take i xs) (get_or xs i x ∷ [])
    ∙ ap (λ y. map f (take i xs) ++ f y ∷ []) (sym is)

-- one more of lists that are joined
pub gather-turn : {X Y Z : Type 0} (f : X → Y) (g : Y → List Z) (xs : List X) (i : ℕ) (x : X) (first old new : List Z)
    → i < length xs → x ≡ get_or xs i x
    → old ≡ first ++ flat_map g (map f (take i xs)) → new ≡ old ++ g (f x)
    → new ≡ first ++ flat_map g (map f (take (i + 1) xs))
gather-turn f g xs i x first old new h is was added =
    let front = map f (take i xs) in
    added ∙ ap (λ l. l ++ g (f x)) was ∙ append_assoc first (flat_map g front) (g (f x))
    ∙ ap (λ l. first ++ (flat_map g front ++ l)) (sym (append-nil (g (f x))))
    ∙ ap (λ l. first ++ l)
    (sym (ap (flat_map g) (map-turn f xs i x h is) ∙ flat_map-append g front (f x ∷ [])))

-- one more that passes a test, or doesn't
pub passing-turn : {X Y : Type 0} (f : X → Y) (test : Y → Bool) (xs : List X) (i : ℕ) (x : X) (old new : List Y)
    → i < length xs → x ≡ get_or xs i x → test (f x) ≡ true
    → old ≡ filter test (map f (take i xs)) → new ≡ old ++ f x ∷ [] → new ≡ filter test (map f (take (i + 1) xs))
passing-turn f test xs i x old new h is t was added =
    added ∙ ap (λ ys. ys ++ f x ∷ []) was
    ∙ sym (ap (filter test) (map-turn f xs i x h is) ∙ filter-append test (map f (take i xs)) (f x ∷ [])
    ∙ ap (λ b. filter test (map f (take i xs)) ++ cond b (f x ∷ []) []) t)

pub failing-turn : {X Y : Type 0} (f : X → Y) (test : Y → Bool) (xs : List X) (i : ℕ) (x : X) (old : List Y)
    → i < length xs → x ≡ get_or xs i x → test (f x) ≡ false
    → old ≡ filter test (map f (take i xs)) → old ≡ filter test (map f (take (i + 1) xs))
failing-turn f test xs i x old h is t was =
    was
    ∙ sym (ap (filter test) (map-turn f xs i x h is) ∙ filter-append test (map f (take i xs)) (f x ∷ [])
    ∙ ap (λ b. filter test (map f (take i xs)) ++ cond b (f x ∷ []) []) t
    ∙ append-nil (filter test (map f (take i xs))))

-- ---- what records say by the names listed so far

pub said-turn : {X A : Type 0} (says : List (List ℕ) → Frame → List A) (view : X → Frame) (xs : List X) (i : ℕ)
    (x : X) (listed more : List (List ℕ)) (old new all : List A) → i < length xs → x ≡ get_or xs i x
    → old ++ said_by says listed (map view (drop i xs)) ≡ all
    → new ≡ old ++ says listed (view x) → more ≡ listed ++ listed_in (view x)
    → new ++ said_by says more (map view (drop (i + 1) xs)) ≡ all
said-turn says view xs i x listed more old new all h is left added longer =
    ap₂ (λ n l. n ++ said_by says l (map view (drop (i + 1) xs))) added longer
    ∙ append_assoc old (says listed (view x)) _
    ∙ ap (λ l. old ++ said_by says listed (map view l)) (sym (drop-one xs i x h is)) ∙ left

pub said-end : {X A : Type 0} (says : List (List ℕ) → Frame → List A) (view : X → Frame) (xs : List X) (i : ℕ)
    (listed : List (List ℕ)) (old all : List A) → length xs ≤ i
    → old ++ said_by says listed (map view (drop i xs)) ≡ all → old ≡ all
said-end says view xs i listed old all h left =
    sym (append-nil old) ∙ ap (λ l. old ++ said_by says listed (map view l)) (sym (drop_of_length-le xs h)) ∙ left
