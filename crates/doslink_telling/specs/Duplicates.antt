-- The names that more than one public of a program has (TIS OMF 1.1, PUBDEF and LPUBDEF), and their lines.
use Rattle.std.specs.Prelude.{ℕ, ◌-◌, ◌==◌, ◌&&◌, nat_eq, Bool, false, if◌then◌else◌}
use Rattle.std.specs.Prelude.{List, [], ◌∷◌, ◌++◌, codes, filter, length, map, slice_get, take}
use Rattle.std.specs.declared.option.Option.{Option}
use Rattle.std.specs.Bool.{then_some}
use Rattle.std.specs.List.{concat, enumerate_from, flat_map}
use Rattle.std.specs.Option.{option_eq, option_map_or, unwrap_or}
use Rattle.std.specs.Str.{bytes_eq}
use Rattle.omf_module.specs.Module.{Module, PublicSymbol}
use Rattle.omf_place.specs.Names.{spelled}
use Rattle.omf_place.specs.declared.names.Names.{Names}
use Rattle.doslink_telling.specs.Lines.{named}
use Rattle.doslink_telling.specs.Missing.{told_count, told_lines}
use Rattle.doslink_telling.specs.Warnings.{grouped}

-- a public: the index of the module that it is local to, where it is; what of its name counts; its name as it is
-- written; and the index of its module
pub record Public : Type 0 where
  pub owner : Option ℕ
  pub spelled : List ℕ
  pub name : List ℕ
  pub input : ℕ

-- a public of the module with this index
abbrev pub public_of : Names → (input : ℕ) → PublicSymbol → Public
public_of names input symbol = record {
  owner = then_some symbol.local input;
  spelled = spelled names symbol.name;
  name = symbol.name;
  input = input;
}

-- those of a module with its index
abbrev pub publics_of : Names → ℕ × Module → List Public
publics_of names m = map (public_of names m.0) m.1.publics

-- those of a program, in order of modules and records
abbrev pub all_publics : Names → List Module → List Public
all_publics names modules = flat_map (publics_of names) (enumerate_from 0 modules)

-- two have one name: their names agree, and both are known to all modules or both are local to one
abbrev pub is_same : Public → Public → Bool
is_same p q = option_eq nat_eq p.owner q.owner && bytes_eq p.spelled q.spelled

-- those that have the name of one, each with its place among all
abbrev pub same_ones : List Public → Public → List (ℕ × Public)
same_ones all p = filter (λ e. is_same p e.1) (enumerate_from 0 all)

-- a public is the second one of its name
abbrev pub is_second : List Public → ℕ × Public → Bool
is_second all p = option_map_or (λ e. e.0 == p.0) (slice_get (same_ones all p.1) 1) false

-- the names that more than one has, in the order in which their second ones are met, each by its second one
abbrev pub duplicates : List Public → List (ℕ × Public)
duplicates all = filter (is_second all) (enumerate_from 0 all)

-- how many more there are, as a word behind others
abbrev pub rest_word : ℕ → List ℕ
rest_word count = concat ([] ∷ grouped count ∷ codes " more" ∷ [])

-- a word where there are some
abbrev pub if_any : (count : ℕ) → (word : List ℕ) → List (List ℕ)
if_any count word = if count == 0 then [] else word ∷ []

-- the line of such a name, with the words for all modules that have it, each as often as it does, or for the first of
-- them and how many more there are
abbrev pub duplicate_line : (words : List (List ℕ)) → List Public → (tells_all : Bool) → ℕ × Public → List ℕ
duplicate_line words all tells_all p =
    let same = same_ones all p.1 in
    let told = told_count (length same) tells_all in
    named (25, codes "DuplicatePublic") p.1.name
    (map (λ e. unwrap_or (slice_get words e.1.input) []) (take told same)
    ++ if_any (length same - told) (rest_word (length same - told)))

-- the lines of some of them, or of the first and how many more there are
abbrev pub lines_of : (words : List (List ℕ)) → List Public → (found : List (ℕ × Public)) → (tells_all : Bool) → List ℕ
lines_of words all found tells_all = told_lines (duplicate_line words all tells_all) found tells_all

-- the lines of those of a program
abbrev pub duplicate_lines : Names → List Module → (words : List (List ℕ)) → (tells_all : Bool) → List ℕ
duplicate_lines names modules words tells_all =
    let all = all_publics names modules in lines_of words all (duplicates all) tells_all
