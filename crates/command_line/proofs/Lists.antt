-- What holds of lists: of tests over them, and of those that are made item by item.
use Rattle.std.proofs.Common.{◌≡◌, ◌&&◌, ◌||◌, Bool, true, false, not, cond, List, [], ◌∷◌, Some, refl}
use Rattle.std.proofs.Common.{◌∙◌, ◌++◌, ◌+◌, ◌<◌, ℕ, ap, ap₂, get_or, length, map, sym, take, true≢false}
use Rattle.std.specs.Prelude.{find}
use Rattle.std.specs.List.{list_all, list_any}
use Rattle.std.specs.Option.{option_map_or}
use Rattle.std.proofs.lemmas.Bool.{and_from, and_parts, or_parts}
use Rattle.std.proofs.lemmas.List.{map_more, map_push}

-- what is found passes a test that all pass
pub found_passes : {X : Type 0} (test p : X → Bool) (xs : List X) → list_all test xs ≡ true
    → option_map_or test (find p xs) true ≡ true
found_passes test p [] e = refl
found_passes {X} test p (x ∷ xs) e =
    go (p x) (and_parts (test x) _ e).0 (found_passes test p xs (and_parts (test x) _ e).1)
  where
    go : (b : Bool) → test x ≡ true → option_map_or test (find p xs) true ≡ true
        → option_map_or test (cond b (Some x) (find p xs)) true ≡ true
    go true here rest = here
    go false here rest = rest

-- where none passes one test, and what fails it passes another, all pass that
pub all_from_none : {X : Type 0} (p q : X → Bool) (xs : List X) → ((x : X) → p x ≡ false → q x ≡ true)
    → list_any p xs ≡ false → list_all q xs ≡ true
all_from_none p q [] each e = refl
all_from_none p q (x ∷ xs) each e =
    let two = or_parts (p x) _ e in
    and_from _ _ (each x two.0) (all_from_none p q xs each two.1)

-- what is wanted and given is there, where each that is given is
pub there_from_given : (wanted given there : Bool) → (given ≡ true → there ≡ true) → (wanted && not given) ≡ false
    → (not wanted || there) ≡ true
there_from_given false given there from e = refl
there_from_given true true there from e = from refl
there_from_given true false there from e = absurd (true≢false e)

-- a list that is made of another one, item by item, with what the next item gives: `v` is how what is made is seen, `w`
-- how the other list is, and `f` what has to be made of that
pub made_next : {X A Y B : Type 0} (v : B → Y) (f : X → Y) (w : A → X) (all : List A) (had new : List B) (i : ℕ) (d : A)
    (y : B) → i < length all → new ≡ had ++ (y ∷ []) → v y ≡ f (w (get_or all i d))
    → map v had ≡ map f (map w (take i all)) → map v new ≡ map f (map w (take (i + 1) all))
made_next {X} {A} {Y} {B} v f w all had new i d y inside put is before =
    ap (map v) put
    ∙ (map_push v had y
    ∙ (ap₂ (λ (ys : List Y) (x : Y). ys ++ (x ∷ [])) before is
    ∙ sym (ap (map f) (map_more w all i d inside) ∙ map_push f (map w (take i all)) (w (get_or all i d)))))
