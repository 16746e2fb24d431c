-- The externals of a module that have a default resolution: weak ones, which are the pairs of its comments of class
-- A8H (TIS OMF 1.1, "WKEXT"), and lazy ones, those of class A9H ("LZEXT"). A pair is the index of an external and
-- that of its default.
use Rattle.std.specs.Prelude.{ℕ, zero, suc, ◌+◌, ◌==◌, Bool, false, not, ◌&&◌, ◌||◌, if◌then◌else◌, List, [], ◌∷◌, ◌++◌}
use Rattle.std.specs.Prelude.{slice_get, Some, None}
use Rattle.std.specs.declared.option.Option.{Option}
use Rattle.std.specs.List.{filter_map, flat_map, list_any}
use Rattle.std.specs.Option.{option_map, option_map_or, option_and_then}
use Rattle.std.specs.Str.{bytes_eq}
use Rattle.omf_frame.specs.Frame.{Frame}
use Rattle.omf_library.specs.Fields.{index_front}
use Rattle.omf_library.specs.Records.{comment_text}
use Rattle.omf_library.specs.Entries.{entries, external_front, communal_front, variable_front}
use Rattle.omf_library.specs.Entries.{listed_name}
use Rattle.omf_library.specs.Listed.{said_by}

-- ---- externals by their indexes

-- the externals of a record are local to its module: B4H and B5H LEXTDEF, B8H LCOMDEF
abbrev pub is_local : ℕ → Bool
is_local kind = (kind == 0xB4) || (kind == 0xB5) || (kind == 0xB8)

-- a record defines externals: these, 8CH EXTDEF, B0H COMDEF, BCH CEXTDEF
abbrev pub defines_externals : ℕ → Bool
defines_externals kind = is_local kind || (kind == 0x8C) || (kind == 0xB0) || (kind == 0xBC)

-- a name that other modules may define: none of one that is local to its module
abbrev pub shared_name : (kind : ℕ) → (name : List ℕ) → Option (List ℕ)
shared_name kind name = if is_local kind then None else Some name

-- the external at the front of a record of this type that has names: in COMDEF and LCOMDEF it is a variable
abbrev pub own_name_front : (kind : ℕ) → List ℕ → Option (List ℕ × List ℕ)
own_name_front kind bytes =
    if (kind == 0xB0) || (kind == 0xB8) then variable_front bytes else external_front bytes

-- the external at the front of a record of this type, by the names listed so far
abbrev pub any_external_front : List (List ℕ) → (kind : ℕ) → List ℕ → Option (Option (List ℕ) × List ℕ)
any_external_front listed kind bytes =
    if kind == 0xBC then option_map (λ (index, rest). (listed_name listed index, rest)) (communal_front bytes)
    else option_map (λ (name, rest). (shared_name kind name, rest)) (own_name_front kind bytes)

-- the externals of a record
unfoldable pub record_externals : List (List ℕ) → Frame → List (Option (List ℕ))
record_externals listed f =
    if defines_externals f.kind then entries (any_external_front listed f.kind) f.body else []

-- those of records, whose indexes count them from 1 on
abbrev pub module_externals : List Frame → List (Option (List ℕ))
module_externals records = said_by record_externals [] records

-- the external with this index: its name, or that it is local
abbrev pub external_at : List (Option (List ℕ)) → ℕ → Option (Option (List ℕ))
external_at externals zero = None
external_at externals (suc before) = slice_get externals before

-- ---- those that have a default

-- one of them, and its default: the index of that, and its name, none where it is local to the module; the place is
-- that of the comment
pub record Defaulted : Type 0 where
  pub place : ℕ
  pub index : ℕ
  pub name : List ℕ
  pub default_index : ℕ
  pub default_name : Option (List ℕ)

-- the pair of indexes at the front of the bytes
abbrev pub pair_front : List ℕ → Option ((ℕ × ℕ) × List ℕ)
pair_front bytes = option_and_then
    (λ (index, rest). option_map (λ (other, after). ((index, other), after)) (index_front rest)) (index_front bytes)

-- the external of a pair; none where one of the two isn't there, or where the first is local to the module
abbrev pub defaulted_of : List (Option (List ℕ)) → (place : ℕ) → ℕ × ℕ → Option Defaulted
defaulted_of externals place pair = option_and_then
    (λ name. option_map
    (λ d. record { place = place; index = pair.0; name = name; default_index = pair.1; default_name = d })
    (external_at externals pair.1))
    (option_and_then (λ name. name) (external_at externals pair.0))

-- those that a record tells, as a comment of this class
unfoldable pub defaulted_in : (class : ℕ) → List (Option (List ℕ)) → Frame → List Defaulted
defaulted_in class externals f =
    filter_map (defaulted_of externals f.place) (option_map_or (entries pair_front) (comment_text class f) [])

-- those of records
abbrev pub defaulted : (class : ℕ) → List Frame → List Defaulted
defaulted class records = flat_map (defaulted_in class (module_externals records)) records

-- the weak ones
unfoldable pub weak_externals : List Frame → List Defaulted
weak_externals records = defaulted 0xA8 records

-- the weak ones, and the lazy ones behind them
unfoldable pub weak_and_lazy : List Frame → List Defaulted
weak_and_lazy records = defaulted 0xA8 records ++ defaulted 0xA9 records

-- ---- names of them alone

-- a name is that of one of them
abbrev pub is_name_of : List Defaulted → (name : List ℕ) → Bool
is_name_of marked name = list_any (λ d. bytes_eq d.name name) marked

-- an index is that of one of them
abbrev pub is_index_of : List Defaulted → (index : ℕ) → Bool
is_index_of marked index = list_any (λ d. d.index == index) marked

-- an external has a name
abbrev pub is_named : (name : List ℕ) → Option (List ℕ) → Bool
is_named name external = option_map_or (bytes_eq name) external false

-- some external has the name that isn't one of them, the first having this index
abbrev pub has_other : List Defaulted → (name : List ℕ) → (index : ℕ) → List (Option (List ℕ)) → Bool
has_other marked name index [] = false
has_other marked name index (external ∷ externals) =
    (is_named name external && not (is_index_of marked index)) || has_other marked name (index + 1) externals

-- a name is one of these
abbrev pub is_among : (name : List ℕ) → List (List ℕ) → Bool
is_among name names = list_any (bytes_eq name) names

-- a name of one of them that no other one of these externals has
abbrev pub is_theirs : List Defaulted → List (Option (List ℕ)) → (name : List ℕ) → Bool
is_theirs marked externals name = is_name_of marked name && not (has_other marked name 1 externals)

-- the same in records
unfoldable pub is_theirs_alone : List Defaulted → List Frame → (name : List ℕ) → Bool
is_theirs_alone marked records name = is_theirs marked (module_externals records) name
