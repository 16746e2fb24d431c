-- The names of a library's members: each is entered once, for the first member that has it.
use Rattle.std.specs.Prelude.{ℕ, ◌+◌, Bool, if◌then◌else◌, is_some, List, [], ◌∷◌, ◌++◌, length, map}
use Rattle.std.specs.declared.option.Option.{Option}
use Rattle.std.specs.Int.{div_ceil}
use Rattle.std.specs.List.{find}
use Rattle.std.specs.Option.{option_map, option_to_list}
use Rattle.std.specs.Str.{bytes_eq}
use Rattle.omf_librarian.specs.Dictionary.{Entry}
use Rattle.omf_librarian.specs.Modules.{names_of}

-- a name that a member has: its index, and the number of its page
pub record Named : Type 0 where
  pub name : List ℕ
  pub member : ℕ
  pub page : ℕ

-- how many pages a member takes
abbrev pub pages_of : (size : ℕ) → List ℕ → ℕ
pages_of size m = div_ceil (length m) size

-- the names of a member
abbrev pub named_by : (member page : ℕ) → List ℕ → List Named
named_by member page m = map (λ n. record { name = n; member = member; page = page }) (names_of m)

-- the names of members in their order, the first having this index and beginning at this page
abbrev pub all_named : (size member page : ℕ) → List (List ℕ) → List Named
all_named size member page [] = []
all_named size member page (m ∷ ms) =
    named_by member page m ++ all_named size (member + 1) (page + pages_of size m) ms

-- the first of these that has the name
abbrev pub first_of : List Named → (name : List ℕ) → Option Named
first_of names name = find (λ (n : Named). bytes_eq n.name name) names

-- a name, and the page of its member, as a dictionary has them
abbrev pub entry_for : Named → Entry
entry_for n = record { name = n.name; page = n.page }

-- those that are entered, behind others
abbrev pub entries_behind : (before : List Named) → List Named → List Entry
entries_behind before [] = []
entries_behind before (n ∷ ns) =
    (if is_some (first_of before n.name) then [] else entry_for n ∷ []) ++ entries_behind (before ++ n ∷ []) ns

-- a name that two members have, or one twice: their indexes. The first one's page is that of the name
pub record Doubled : Type 0 where
  pub name : List ℕ
  pub first : ℕ
  pub second : ℕ

abbrev pub doubled_with : Named → Named → Doubled
doubled_with n first = record { name = n.name; first = first.member; second = n.member }

-- those that are told, behind others
abbrev pub doubled_behind : (before : List Named) → List Named → List Doubled
doubled_behind before [] = []
doubled_behind before (n ∷ ns) =
    option_to_list (option_map (doubled_with n) (first_of before n.name)) ++ doubled_behind (before ++ n ∷ []) ns
