-- The names that are defined in a link, as they are held.
use Rattle.std.proofs.Common.{◌≡◌, ℕ, Bool, true, false, cond, ◌||◌, List, [], ◌∷◌, ◌++◌}
use Rattle.std.proofs.Common.{find, is_some, Option, None, Some, refl, ap, ap₂, ◌∙◌}
use Rattle.std.proofs.lemmas.List.Folds.{list_any-append}
use Rattle.std.specs.Cmp.{IsEquivalence}
use Rattle.std.specs.Cmp.Lexicographic.{on_texts_equal}
use Rattle.std.specs.List.{flat_map, list_any}
use Rattle.std.specs.Option.{option_map}
use Rattle.omf_alias.specs.Meaning.{Renaming}
use Rattle.omf_alias.specs.Ordered.{value_of}
use Rattle.omf_alias.specs.Reading.{Alias}
use Rattle.omf_alias.specs.declared.named.NamedValue.{NamedValue}
use Rattle.omf_place.specs.Names.{agrees, spelled}
use Rattle.omf_place.specs.declared.names.Names.{Names}
use Rattle.omf_search.specs.Said.{Module}
use Rattle.doslink_passes.specs.Aliases.{is_defined}
use Rattle.doslink_passes.specs.inside.Defined.{defined_names, names_held}

names_agree : (names : Names) → IsEquivalence (agrees names)
names_agree names = on_texts_equal (spelled names)

some-map : {X Y : Type 0} (f : X → Y) (o : Option X) → is_some (option_map f o) ≡ is_some o
some-map f None = refl
some-map f (Some x) = refl

found-turn : {X : Type 0} (b : Bool) (x : X) (o : Option X) (rest : Bool) → is_some o ≡ rest
    → is_some (cond b (Some x) o) ≡ (b || rest)
found-turn true x o rest e = refl
found-turn false x o rest e = e

found-any : {X : Type 0} (p : X → Bool) (xs : List X) → is_some (find p xs) ≡ list_any p xs
found-any p [] = refl
found-any p (x ∷ xs) = found-turn (p x) x (find p xs) (list_any p xs) (found-any p xs)

any-held : (names : Names) (held : List (NamedValue Bool)) (name : List ℕ)
    → list_any (λ v. agrees names v.name.now name) held ≡ list_any (agrees names name) (names_held held)
any-held names [] name = refl
any-held names (v ∷ held) name =
    ap₂ (λ a b. a || b) ((names_agree names).symm v.name.now name) (any-held names held name)

-- one has a value exactly where it is among the names that are held
value-any : (names : Names) (held : List (NamedValue Bool)) (name : List ℕ)
    → is_some (value_of names held name) ≡ list_any (agrees names name) (names_held held)
value-any names held name =
    some-map (λ v. v.value) (find (λ v. agrees names v.name.now name) held)
    ∙ found-any (λ v. agrees names v.name.now name) held ∙ any-held names held name

three : (p : List ℕ → Bool) (m : Module)
    → list_any p (defined_names m) ≡ ((list_any p m.offered || list_any p m.communals) || list_any p m.wanted)
three p m =
    list_any-append p m.offered (m.communals ++ m.wanted)
    ∙ ap (λ b. list_any p m.offered || b) (list_any-append p m.communals m.wanted)
    ∙ joined (list_any p m.offered) (list_any p m.communals) (list_any p m.wanted)
  where
    joined : (a b c : Bool) → (a || (b || c)) ≡ ((a || b) || c)
    joined true b c = refl
    joined false b c = refl

any-modules : (names : Names) (ms : List Module) (name : List ℕ)
    → list_any (agrees names name) (flat_map defined_names ms) ≡ is_defined names ms name
any-modules names [] name = refl
any-modules names (m ∷ ms) name =
    list_any-append (agrees names name) (defined_names m) (flat_map defined_names ms)
    ∙ ap₂ (λ a b. a || b) (three (agrees names name) m) (any-modules names ms name)

pub held-defined : (names : Names) (ms : List Module) (held : List (NamedValue Bool)) (name : List ℕ)
    → names_held held ≡ flat_map defined_names ms → is_some (value_of names held name) ≡ is_defined names ms name
held-defined names ms held name e =
    value-any names held name ∙ ap (list_any (agrees names name)) e ∙ any-modules names ms name

-- a renaming of these aliases, and of further ones behind them
abbrev pub renaming-with : (aliases : List Alias) → Names → (own : List Alias) → Renaming
renaming-with aliases names own = record { names = names; aliases = aliases ++ own }
