-- Lists that are made element by element.
use Rattle.std.proofs.Common.{◌≡◌, ℕ, ◌+◌, ◌<◌, Bool, false, ◌||◌, List, [], ◌∷◌, length, map, refl}
use Rattle.std.proofs.Common.{get_or, take, sym, ap, ap₂, ◌∙◌, ◌++◌}
use Rattle.std.proofs.lemmas.List.{map-append, map_more, take_more}
use Rattle.std.proofs.lemmas.List.Folds.{list_any-append}
use Rattle.std.specs.List.{list_any}

-- one list of a list, of another one of it
pub map-map : {X Y Z : Type 0} (f : X → Y) (g : Y → Z) (xs : List X) → map (λ x. g (f x)) xs ≡ map g (map f xs)
map-map f g [] = refl
map-map f g (x ∷ xs) = ap (λ l. g (f x) ∷ l) (map-map f g xs)

-- a test of what is made of each
pub any-map : {X Y : Type 0} (test : Y → Bool) (f : X → Y) (xs : List X)
    → list_any test (map f xs) ≡ list_any (λ x. test (f x)) xs
any-map test f [] = refl
any-map test f (x ∷ xs) = ap (λ b. test (f x) || b) (any-map test f xs)

-- none of one element more passes a test
pub none-more : {X Y : Type 0} (test : Y → Bool) (f : X → Y) (xs : List X) (i : ℕ) (x : X) → i < length xs
    → x ≡ get_or xs i x → list_any test (map f (take i xs)) ≡ false → test (f x) ≡ false
    → list_any test (map f (take (i + 1) xs)) ≡ false
none-more test f xs i x h is before none =
    ap (list_any test) (map_more f xs i x h) ∙ list_any-append test (map f (take i xs)) (f (get_or xs i x) ∷ [])
    ∙ ap₂ (λ a b. a || (b || false)) before (ap (λ y. test (f y)) (sym is) ∙ none)

-- one list that is made as another one is, with one element more
pub map-step : {X Y Z : Type 0} (f : X → Z) (g : Y → Z) (ys : List Y) (i : ℕ) (d : Y) (old new : List X) (x : X)
    → i < length ys → new ≡ old ++ x ∷ [] → f x ≡ g (get_or ys i d) → map f old ≡ map g (take i ys)
    → map f new ≡ map g (take (i + 1) ys)
map-step f g ys i d old new x h pushed same before =
    ap (map f) pushed ∙ map-append f old (x ∷ []) ∙ ap₂ (λ l y. l ++ y ∷ []) before same
    ∙ sym (ap (map g) (take_more ys i d h) ∙ map-append g (take i ys) (get_or ys i d ∷ []))
