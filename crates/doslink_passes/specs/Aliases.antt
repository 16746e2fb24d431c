-- What names mean in a module of a link: by the aliases of all modules, and by those of its own weak and lazy externals
-- that nothing defines.
use Rattle.std.specs.Prelude.{◌≡◌, ℕ, Bool, ◌||◌, if◌then◌else◌, List, [], ◌++◌, None}
use Rattle.std.specs.List.{flat_map, list_any}
use Rattle.std.specs.Option.{option_map, option_to_list}
use Rattle.omf_alias.specs.Meaning.{Renaming, endless}
use Rattle.omf_alias.specs.Reading.{Alias, aliases_of}
use Rattle.omf_library.specs.Defaults.{Defaulted, weak_and_lazy}
use Rattle.omf_library.specs.Records.{module_records}
use Rattle.omf_place.specs.Names.{agrees}
use Rattle.omf_place.specs.declared.names.Names.{Names}
use Rattle.omf_search.specs.Said.{Module, defines}

-- the aliases of modules, in the order of these
abbrev pub link_aliases : (modules : List (List ℕ)) → List Alias
link_aliases modules = flat_map (λ m. aliases_of (module_records m 0)) modules

-- a module needs a name
abbrev pub needs_name : Names → (name : List ℕ) → Module → Bool
needs_name names name m = list_any (agrees names name) m.wanted

-- it defines the name or needs it
abbrev pub has_name : Names → (name : List ℕ) → Module → Bool
has_name names name m = defines names name m || needs_name names name m

-- A name is defined in a link whose modules say so of names: one defines it, or one needs it, where it isn't missing.
abbrev pub is_defined : Names → (says : List Module) → (name : List ℕ) → Bool
is_defined names says name = list_any (has_name names name) says

-- an external that nothing defines stands for its default, where that isn't local to its module
abbrev pub default_alias : Names → (says : List Module) → Defaulted → List Alias
default_alias names says d =
    if is_defined names says d.name then []
    else option_to_list
    (option_map (λ name. record { place = d.place; name = d.name; meaning = name }) d.default_name)

-- those of some externals
abbrev pub default_aliases : Names → (says : List Module) → List Defaulted → List Alias
default_aliases names says externals = flat_map (default_alias names says) externals

-- those of a module: its weak ones, and behind them its lazy ones
abbrev pub own_defaults : Names → (says : List Module) → (bytes : List ℕ) → List Alias
own_defaults names says bytes = default_aliases names says (weak_and_lazy (module_records bytes 0))

-- what names mean in a module of the link that has these aliases
abbrev pub module_renaming : Names → (says : List Module) → List Alias → (bytes : List ℕ) → Renaming
module_renaming names says aliases bytes = record {
  names = names;
  aliases = aliases ++ own_defaults names says bytes;
}

-- what a module itself says of that: its aliases, and its externals that stand for their defaults
abbrev pub module_aliases : Names → (says : List Module) → (bytes : List ℕ) → List Alias
module_aliases names says bytes = aliases_of (module_records bytes 0) ++ own_defaults names says bytes

-- none of these goes round for ever
abbrev pub EndsIn : Names → (says : List Module) → List Alias → (bytes : List ℕ) → Type 0
EndsIn names says aliases bytes =
    endless (module_renaming names says aliases bytes) (module_aliases names says bytes) ≡ None
