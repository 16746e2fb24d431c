-- Lists that were made of items.
use Rattle.std.proofs.Common.{◌≡◌, ◌∙◌, ℕ, ◌+◌, ◌<◌, List, [], ◌∷◌, ◌++◌, take, length, get_or, slice_get, Some}
use Rattle.std.proofs.Common.{ap, map, refl, sym, append-nil, append_assoc}
use Rattle.std.specs.List.{flat_map}
use Rattle.std.proofs.lemmas.List.{take_more}
use Rattle.std.proofs.lemmas.Grind.{flat_map-append}
use Rattle.std.proofs.lemmas.Option.{get_or_from_slice_get, slice_get_within}
use Rattle.omf_module.specs.Module.{Module}
use Rattle.omf_place.specs.Layout.{Layout}
use Rattle.link_map.specs.Public.{Public}
use Rattle.link_map.specs.Publics.{listed, publics}

-- made of what was made of items
pub flat_map-map : {X Y : Type 0} (f : Y → List ℕ) (made : X → Y) (xs : List X)
    → flat_map f (map made xs) ≡ flat_map (λ x. f (made x)) xs
flat_map-map f made [] = refl
flat_map-map f made (x ∷ xs) = ap (λ (l : List ℕ). f (made x) ++ l) (flat_map-map f made xs)

-- of one item more
taken_more : {X Y : Type 0} (f : X → List Y) (xs : List X) (i : ℕ) (d : X) → i < length xs
    → flat_map f (take (i + 1) xs) ≡ flat_map f (take i xs) ++ f (get_or xs i d)
taken_more f xs i d h =
    ap (flat_map f) (take_more xs i d h)
    ∙ (flat_map-append f (take i xs) (get_or xs i d ∷ [])
    ∙ ap (λ l. flat_map f (take i xs) ++ l) (append-nil (f (get_or xs i d))))

-- those of one item more, which is read by a look-up
pub items_more : {X Y : Type 0} (f : X → List Y) (xs : List X) (i : ℕ) (x : X) (start old new : List Y)
    → slice_get xs i ≡ Some x → old ≡ start ++ flat_map f (take i xs) → new ≡ old ++ f x
    → new ≡ start ++ flat_map f (take (i + 1) xs)
items_more {Y = Y} f xs i x start old new here so_far more =
    let is : get_or xs i x ≡ x = get_or_from_slice_get xs i x x here in
    let last : flat_map f (take (i + 1) xs) ≡ flat_map f (take i xs) ++ f x =
    taken_more f xs i x (slice_get_within xs i x here) ∙ ap (λ y. flat_map f (take i xs) ++ f y) is in
    more ∙ ap (λ (l : List Y). l ++ f x) so_far
    ∙ (append_assoc start (flat_map f (take i xs)) (f x) ∙ ap (λ (l : List Y). start ++ l) (sym last))

-- those of one module more
pub module_more : (modules : List Module) (layout : Layout) (i : ℕ) (m : Module) (old new : List Public)
    → i < length modules → m ≡ get_or modules i m → old ≡ publics (take i modules) layout
    → new ≡ old ++ flat_map (listed layout) m.publics → new ≡ publics (take (i + 1) modules) layout
module_more modules layout i m old new there is so_far more =
    more ∙ ap (λ (l : List Public). l ++ flat_map (listed layout) m.publics) so_far
    ∙ (ap (λ (x : Module). publics (take i modules) layout ++ flat_map (listed layout) x.publics) is
    ∙ sym (taken_more (λ (x : Module). flat_map (listed layout) x.publics) modules i m there))
