-- The names of modules: those that one wants and none defines, and those that two define. Which records of a module say
-- so omf_library defines, by the sections of the standard.
use Rattle.std.specs.Prelude.{ℕ, ◌+◌, List, [], ◌∷◌, ◌++◌, map}
use Rattle.std.specs.declared.option.Option.{Option}
use Rattle.std.specs.List.{find}
use Rattle.std.specs.Option.{option_map, option_to_list}
use Rattle.omf_frame.specs.Frame.{Frame}
use Rattle.omf_library.specs.declared.files.FileKind.{FileKind}
use Rattle.omf_library.specs.Aliases.{aliases_of}
use Rattle.omf_library.specs.Members.{PlainMember}
use Rattle.omf_library.specs.Names.{communal_names, external_names, needed_names, offered_names}
use Rattle.omf_library.specs.Records.{module_records}
use Rattle.omf_place.specs.Names.{agrees}
use Rattle.omf_place.specs.declared.names.Names.{Names as Choice}
use Rattle.omf_search.specs.Missing.{missing_names}
use Rattle.omf_search.specs.Said.{Module, Wanted}

-- a module: the path of its file, what that is, and the member of it
pub record Held : Type 0 where
  pub path : List ℕ
  pub kind : FileKind
  pub member : PlainMember

abbrev pub records_of : Held → List Frame
records_of h = module_records h.member.bytes 0

-- what it says of names: of those that it wants the ones that another module has to define
abbrev pub says : Held → Module
says h = record {
  wanted = needed_names (records_of h);
  externals = external_names (records_of h);
  offered = offered_names (records_of h);
  communals = communal_names (records_of h);
  aliases = aliases_of (records_of h);
}

-- the names that modules want and none defines, where those are one that agree
abbrev pub missing : Choice → List Held → List Wanted
missing names held = missing_names names (map says held)

-- ---- names that are offered again

-- a name that a module offers, with the index of the module
pub record Offer : Type 0 where
  pub name : List ℕ
  pub offered_by : ℕ

abbrev pub offer_by : (index : ℕ) → (name : List ℕ) → Offer
offer_by index name = record { name = name; offered_by = index }

-- those of modules in their order, the first having this index
abbrev pub offers_from : (index : ℕ) → List Module → List Offer
offers_from index [] = []
offers_from index (m ∷ ms) = map (offer_by index) m.offered ++ offers_from (index + 1) ms

-- a name that is offered again, as it is spelled there: by whom first, and by whom again
pub record Doubled : Type 0 where
  pub name : List ℕ
  pub first : ℕ
  pub second : ℕ

abbrev pub doubled_with : Offer → Offer → Doubled
doubled_with o first = record { name = o.name; first = first.offered_by; second = o.offered_by }

-- the first of these that offers the name
abbrev pub first_offer : Choice → List Offer → (name : List ℕ) → Option Offer
first_offer names offers name = find (λ (o : Offer). agrees names name o.name) offers

-- those that are offered again, behind others
abbrev pub doubled_behind : Choice → (before : List Offer) → List Offer → List Doubled
doubled_behind names before [] = []
doubled_behind names before (o ∷ os) =
    option_to_list (option_map (doubled_with o) (first_offer names before o.name))
    ++ doubled_behind names (before ++ o ∷ []) os

abbrev pub doubled : Choice → List Held → List Doubled
doubled names held = doubled_behind names [] (offers_from 0 (map says held))
