-- Lists that are made element by element.
use Rattle.std.proofs.Common.{◌≡◌, ℕ, ◌+◌, ◌<◌, ◌≤◌, List, [], ◌∷◌, ◌++◌, length, map, take, get_or, sym, ap, ◌∙◌}
use Rattle.std.proofs.Common.{append_assoc, refl}
use Rattle.std.proofs.lemmas.List.{map-append, map_push, take_all, take_more}
use Rattle.omf_library.specs.Aliases.{aliases_of}
use Rattle.omf_library.specs.Names.{communal_names, external_names, needed_names, offered_names, texts}
use Rattle.omf_library.specs.Records.{module_records}
use Rattle.omf_library.specs.Said.{aliases_said}
use Rattle.omf_library.specs.declared.names.ModuleNames.{ModuleNames}
use Rattle.omf_search.specs.Results.{needs_said}
use Rattle.doslib_names.specs.declared.held.Held as lent
use Rattle.doslib_names.specs.Names.{Held, says}
use Rattle.doslib_names.specs.Said.{held_said}

-- one element more of a list that is mapped
pub mapped-more : {X Y : Type 0} (f : X → Y) (xs : List X) (i : ℕ) (d : X) (old new first : List Y) → i < length xs
    → new ≡ old ++ f (get_or xs i d) ∷ [] → old ≡ first ++ map f (take i xs) → new ≡ first ++ map f (take (i + 1) xs)
mapped-more f xs i d old new first h added before =
    added ∙ ap (λ l. l ++ f (get_or xs i d) ∷ []) before
    ∙ append_assoc first (map f (take i xs)) (f (get_or xs i d) ∷ [])
    ∙ ap (λ l. first ++ l) (sym (map-append f (take i xs) (get_or xs i d ∷ [])) ∙ ap (map f) (sym (take_more xs i d h)))

pub mapped-all : {X Y : Type 0} (f : X → Y) (xs : List X) (i : ℕ) (old first : List Y) → length xs ≤ i
    → old ≡ first ++ map f (take i xs) → old ≡ first ++ map f xs
mapped-all f xs i old first h before = before ∙ ap (λ l. first ++ map f l) (take_all i xs h)

pub twice-mapped : {X Y Z : Type 0} (g : Y → Z) (f : X → Y) (xs : List X) → map g (map f xs) ≡ map (λ x. g (f x)) xs
twice-mapped g f [] = refl
twice-mapped g f (x ∷ xs) = ap (λ l. g (f x) ∷ l) (twice-mapped g f xs)

-- what a module says of names, by what was read of it
abbrev pub SaysSo : {A : Type 0} → ModuleNames A → (bytes : List ℕ) → Type 0
SaysSo x bytes =
    (texts x.needed.items ≡ needed_names (module_records bytes 0))
    × (texts x.externals.items ≡ external_names (module_records bytes 0))
    × (texts x.offered.items ≡ offered_names (module_records bytes 0))
    × (texts x.communals.items ≡ communal_names (module_records bytes 0))
    × (aliases_said x.aliases.items ≡ aliases_of (module_records bytes 0))

says-so : {A : Type 0} (x : ModuleNames A) (h : Held) → SaysSo x h.member.bytes → needs_said x ≡ says h
says-so x h (needed, externals, offered, communals, aliases) =
    rw (needed, externals, offered, communals, aliases) refl

-- one module more
pub says-more : {A : Type 0} (modules : List lent.Held) (i : ℕ) (d : lent.Held) (old new : List (ModuleNames A))
    (x : ModuleNames A) → i < length modules → new ≡ old ++ x ∷ [] → SaysSo x (get_or modules i d).member.bytes.now
    → map needs_said old ≡ [] ++ map (λ h. says (held_said h)) (take i modules)
    → map needs_said new ≡ [] ++ map (λ h. says (held_said h)) (take (i + 1) modules)
says-more modules i d old new x h added so before =
    mapped-more (λ m. says (held_said m)) modules i d (map needs_said old) (map needs_said new) [] h
    (ap (map needs_said) added ∙ map_push needs_said old x
    ∙ ap (λ y. map needs_said old ++ y ∷ []) (says-so x (held_said (get_or modules i d)) so))
    before
