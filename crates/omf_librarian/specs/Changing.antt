-- Members of a library, changed. A module is meant by its name without folder and extension, whatever the case of its
-- letters; of several the first.
use Rattle.std.specs.Prelude.{ℕ, ◌+◌, Bool, if◌then◌else◌, List, [], ◌∷◌, Some, None, set}
use Rattle.std.specs.declared.option.Option.{Option}
use Rattle.std.specs.List.{remove}
use Rattle.std.specs.Option.{option_map}
use Rattle.std.specs.Prelude.{slice_index_or}
use Rattle.std.specs.Str.{str_eq_ignore_ascii_case}
use Rattle.omf_librarian.specs.Modules.{module_name}

unfoldable pub has_name : (name : List ℕ) → (m : List ℕ) → Bool
has_name name m = str_eq_ignore_ascii_case (module_name m) name

-- the index of the first that has the name, where that of the first of all is given
abbrev pub index_from : (index : ℕ) → (name : List ℕ) → List (List ℕ) → Option ℕ
index_from index name [] = None
index_from index name (m ∷ ms) = if has_name name m then Some index else index_from (index + 1) name ms

-- without it, with a module in its place, and it alone; none, where there is none
abbrev pub deleted : (name : List ℕ) → List (List ℕ) → Option (List (List ℕ))
deleted name members = option_map (λ index. remove members index) (index_from 0 name members)

abbrev pub replaced : (name m : List ℕ) → List (List ℕ) → Option (List (List ℕ))
replaced name m members = option_map (λ index. set members index m) (index_from 0 name members)

abbrev pub extracted : (name : List ℕ) → List (List ℕ) → Option (List ℕ)
extracted name members = option_map (λ index. slice_index_or members index []) (index_from 0 name members)
