-- Sets of names and of places, one more at a time.
use Rattle.std.proofs.Common.{◌≡◌, ℕ, ◌+◌, ◌==◌, ◌<◌, ◌&&◌, ◌||◌, Bool, true, false, cond, List, [], ◌∷◌, length, map}
use Rattle.std.proofs.Common.{get_or, take, Vec, refl, sym, ap, ◌∙◌}
use Rattle.std.proofs.lemmas.List.{map-append, take_more}
use Rattle.std.proofs.lemmas.List.Folds.{list_any-append}
use Rattle.std.specs.Cmp.{unsigned_tied}
use Rattle.std.specs.Cmp.Lexicographic.{slice_cmp, texts_ties}
use Rattle.std.specs.List.{list_any}
use Rattle.std.specs.Ordering.{is_eq, nat_cmp}
use Rattle.std.specs.Str.{bytes_eq}

-- a test of one more
any-one : {X Y : Type 0} (said : X → Y) (test : Y → Bool) (xs : List X) (i : ℕ) (d : X) → i < length xs
    → list_any test (map said (take (i + 1) xs))
    ≡ (list_any test (map said (take i xs)) || (test (said (get_or xs i d)) || false))
any-one said test xs i d h =
    ap (λ l. list_any test (map said l)) (take_more xs i d h)
    ∙ ap (list_any test) (map-append said (take i xs) (get_or xs i d ∷ []))
    ∙ list_any-append test (map said (take i xs)) (said (get_or xs i d) ∷ [])

either : (hit any : Bool) → cond hit true any ≡ (any || (hit || false))
either true true = refl
either true false = refl
either false true = refl
either false false = refl

-- one more that was put in where it passes
pub put-in : {X Y : Type 0} (said : X → Y) (test : Y → Bool) (xs : List X) (i : ℕ) (d : X) (hit was now : Bool)
    → i < length xs → hit ≡ test (said (get_or xs i d)) → was ≡ list_any test (map said (take i xs))
    → now ≡ cond hit true was → now ≡ list_any test (map said (take (i + 1) xs))
put-in said test xs i d hit was now h same before is =
    is ∙ ap (λ a. cond hit true a) before ∙ either hit (list_any test (map said (take i xs)))
    ∙ ap (λ b. list_any test (map said (take i xs)) || (b || false)) same ∙ sym (any-one said test xs i d h)

pub names-more : {X A : Type 0} (said : X → List ℕ) (xs : List X) (i : ℕ) (d : X) (new q : Vec ℕ A) (was now : Bool)
    → i < length xs → new.items ≡ said (get_or xs i d) → was ≡ list_any (λ n. bytes_eq n q.items) (map said (take i xs))
    → now ≡ cond (is_eq (slice_cmp nat_cmp new.items q.items)) true was
    → now ≡ list_any (λ n. bytes_eq n q.items) (map said (take (i + 1) xs))
names-more said xs i d new q was now h same before is =
    put-in said (λ n. bytes_eq n q.items) xs i d (is_eq (slice_cmp nat_cmp new.items q.items)) was now h
    (sym (texts_ties new.items q.items) ∙ ap (λ n. bytes_eq n q.items) same) before is

-- a test of what is made of each
pub any-map : {X Y : Type 0} (test : Y → Bool) (f : X → Y) (xs : List X)
    → list_any test (map f xs) ≡ list_any (λ x. test (f x)) xs
any-map test f [] = refl
any-map test f (x ∷ xs) = ap (λ b. test (f x) || b) (any-map test f xs)
