-- Where the modules that are taken stand.
use Rattle.std.specs.Prelude.{◌≡◌, List, [], ◌∷◌, slice_get, None, Some}
use Rattle.doslink_stock.specs.declared.searching.Place.{Place}
use Rattle.doslink_stock.specs.declared.searching.Place.TheVariants.{Object, Member}
use Rattle.doslink_stock.specs.Files.{Held}
use Rattle.doslink_stock.specs.Search.{TakenFor}

-- a module stands at a place, among these object files or these members
abbrev pub IsPlaced : (objects members : List Held) → Place → TakenFor → Type 0
IsPlaced objects members (Object index) t = (slice_get objects index ≡ Some t.held) × (t.wanted ≡ None)
IsPlaced objects members (Member index wanted) t =
    (slice_get members index ≡ Some t.held) × (t.wanted ≡ Some wanted.now)

-- each of these does
abbrev pub ArePlaced : (objects members : List Held) → List Place → List TakenFor → Type 0
ArePlaced objects members [] [] = Unit {0}
ArePlaced objects members [] (t ∷ ts) = ⊥
ArePlaced objects members (p ∷ ps) [] = ⊥
ArePlaced objects members (p ∷ ps) (t ∷ ts) = IsPlaced objects members p t × ArePlaced objects members ps ts
