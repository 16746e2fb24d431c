-- Which record of a module asks for a name first.
use Rattle.std.specs.Prelude.{◌≡◌, ℕ, Bool, ◌||◌, if◌then◌else◌, List, [], ◌∷◌, ◌++◌, Some, None}
use Rattle.std.specs.declared.cmp.Ordering.{Ordering}
use Rattle.std.specs.declared.option.Option.{Option}
use Rattle.std.specs.Borrow.{Bor}
use Rattle.std.specs.BTreeMap.{get}
use Rattle.std.specs.Cmp.Lexicographic.{slice_cmp}
use Rattle.std.specs.List.{list_any}
use Rattle.std.specs.Option.{option_map}
use Rattle.std.specs.Ordering.{nat_cmp}
use Rattle.std.specs.Str.{bytes_eq}
use Rattle.omf_frame.specs.Frame.{Frame}
use Rattle.omf_library.specs.Aliases.{Alias, aliases_in, aliases_of}
use Rattle.omf_library.specs.Defaults.{is_among}
use Rattle.omf_library.specs.Listed.{listed_in}
use Rattle.omf_library.specs.Names.{external_names, wanted_in}
use Rattle.omf_library.specs.declared.wanting.WantingPlaces.{WantingPlaces}

-- one of some aliases stands for a name
abbrev pub is_meant : (name : List ℕ) → List Alias → Bool
is_meant name aliases = list_any (λ a. bytes_eq name a.meaning) aliases

-- a record asks for a name: it wants it, or has an alias that stands for it
abbrev pub asks : (name : List ℕ) → (listed : List (List ℕ)) → Frame → Bool
asks name listed f = is_among name (wanted_in listed f) || is_meant name (aliases_in f)

-- the records of a module do
abbrev pub is_asked : (name : List ℕ) → List Frame → Bool
is_asked name records = is_among name (external_names records) || is_meant name (aliases_of records)

-- the first of these records that asks for a name, each by the names that those before it have listed
abbrev pub first_wanting : (name : List ℕ) → (listed : List (List ℕ)) → List Frame → Option Frame
first_wanting name listed [] = None
first_wanting name listed (f ∷ fs) =
    if asks name listed f then Some f else first_wanting name (listed ++ listed_in f) fs

-- the place of the first of a module's records that asks for a name
unfoldable pub wanting_place : (name : List ℕ) → List Frame → Option ℕ
wanting_place name records = option_map (λ f. f.place) (first_wanting name [] records)

-- how names stand to each other, by their bytes
abbrev pub name_order : Bor (List ℕ) → Bor (List ℕ) → Ordering
name_order x y = slice_cmp nat_cmp x.now y.now

-- the place that a map has for a name
unfoldable pub place_of : {A : Type 0} → WantingPlaces A → Bor (List ℕ) → Option ℕ
place_of p q = get name_order p.places q

-- a map has for each name the place of the first of these records of a module that asks for it
abbrev pub HasWanting : {A : Type 0} → List Frame → WantingPlaces A → Type 0
HasWanting records p = (q : Bor (List ℕ)) → place_of p q ≡ wanting_place q.now records
