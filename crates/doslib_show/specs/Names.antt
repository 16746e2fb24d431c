-- The names that have an index in a module (TIS OMF 1.1, "Index Fields"), as far as its records have come.
use Rattle.std.specs.Prelude.{ℕ, List, [], ◌∷◌, ◌++◌, map, codes, decimal, unwrap_or}
use Rattle.std.specs.List.{concat}
use Rattle.std.specs.Option.{option_map_or}
use Rattle.omf_extended.specs.Said.{Extended, Comdef}
use Rattle.omf_library.specs.Entries.{listed_name}
use Rattle.omf_record.specs.Record.{External, Record, Lnames, Segdef, Grpdef, Extdef}
use Rattle.omf_text.specs.Printing.{printed_name}
use Rattle.omf_wide.specs.Communals.{Communal}
use Rattle.omf_wide.specs.Said.{Said, Plain, Cextdef, Segdef as WideSegdef}

-- names by their indexes, which count from 1: those that are listed, and those of segments, groups and externals
pub record Names : Type 0 where
  pub listed : List (List ℕ)
  pub segments : List (List ℕ)
  pub groups : List (List ℕ)
  pub externals : List (List ℕ)

-- before the first record
abbrev pub no_names : Names
no_names = record { listed = []; segments = []; groups = []; externals = [] }

-- the name with an index of these, and an empty one where it has none
abbrev pub name_of : List (List ℕ) → ℕ → List ℕ
name_of names index = unwrap_or (listed_name names index) []

-- the index behind `#`
abbrev pub bare_index : ℕ → List ℕ
bare_index index = concat (codes "#" ∷ decimal index ∷ [])

-- an index as it is printed: the name that it has, else itself
abbrev pub named : List (List ℕ) → ℕ → List ℕ
named names index = option_map_or printed_name (listed_name names index) (bare_index index)

abbrev pub with_listed : Names → List (List ℕ) → Names
with_listed names new = record names { listed = names.listed ++ new }

-- a segment has the name with this index
abbrev pub with_segment : Names → (name : ℕ) → Names
with_segment names name = record names { segments = names.segments ++ name_of names.listed name ∷ [] }

abbrev pub with_group : Names → (name : ℕ) → Names
with_group names name = record names { groups = names.groups ++ name_of names.listed name ∷ [] }

abbrev pub with_externals : Names → List (List ℕ) → Names
with_externals names new = record names { externals = names.externals ++ new }

-- the names behind one of the fourteen
abbrev pub names_behind_record : Names → Record → Names
names_behind_record names (Lnames new) = with_listed names new
names_behind_record names (Segdef segment) = with_segment names segment.name
names_behind_record names (Grpdef name segments) = with_group names name
names_behind_record names (Extdef local new) = with_externals names (map (λ (e : External). e.name) new)
names_behind_record names _ = names

-- those behind a record that says this
unfoldable pub names_behind : Names → Said → Names
names_behind names (Plain r) = names_behind_record names r
names_behind names (Cextdef new) = with_externals names (map (λ e. name_of names.listed e.name) new)
names_behind names (WideSegdef wide segment) = with_segment names segment.name
names_behind names _ = names

-- those behind one of the types that came after Intel's: communal variables are externals
abbrev pub names_behind_more : Names → Extended → Names
names_behind_more names (Comdef local new unknown) = with_externals names (map (λ (c : Communal). c.name) new)
names_behind_more names _ = names
