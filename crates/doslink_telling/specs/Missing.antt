-- The names that stay missing, and the lines that tell of them.
use Rattle.std.specs.Prelude.{ℕ, ◌-◌, ◌==◌, Bool, if◌then◌else◌, length, nat_le, not, take, ◌||◌, List, [], ◌∷◌, ◌++◌}
use Rattle.std.specs.Prelude.{codes, decimal, filter, map, slice_get, Some, None}
use Rattle.std.specs.declared.option.Option.{Option}
use Rattle.std.specs.Borrow.{Bor}
use Rattle.std.specs.List.{concat, flat_map, list_any}
use Rattle.std.specs.Option.{option_map_or}
use Rattle.omf_library.specs.Records.{module_records}
use Rattle.omf_library.specs.Wanting.{wanting_place}
use Rattle.omf_place.specs.Names.{agrees}
use Rattle.omf_place.specs.declared.names.Names.{Names}
use Rattle.omf_search.specs.declared.likeness.Whose.{Whose}
use Rattle.omf_search.specs.declared.likeness.Whose.TheVariants as whose
use Rattle.omf_search.specs.Likeness.{Offered, first_like}
use Rattle.omf_search.specs.Missing.{missing_names}
use Rattle.omf_search.specs.Said.{Module, Wanted}
use Rattle.omf_text.specs.Printing.{hexadecimal, printed_name}
use Rattle.doslink_stock.specs.Files.{Held, needs}
use Rattle.doslink_stock.specs.Search.{candidates}
use Rattle.doslink_telling.specs.Table.{header_name}
use Rattle.doslink_telling.specs.Warnings.{more_line, most_told}
use Rattle.doslink_telling.specs.Words.{module_word}

-- a name is one that the order module defines where it is wanted
abbrev pub is_mark : Names → List ℕ → Bool
is_mark names name =
    agrees names (codes "_edata") name || agrees names (codes "__edata") name || agrees names (codes "_end") name
    || agrees names (codes "__end") name

-- the names that modules want and none offers, without those that the order module defines
abbrev pub unmet : Names → List Module → List Wanted
unmet names modules = filter (λ w. not (is_mark names w.name)) (missing_names names modules)

-- one that the order module defines is among those that modules want and none offers
abbrev pub wants_marks : Names → List Module → Bool
wants_marks names modules = list_any (λ w. is_mark names w.name) (missing_names names modules)

-- ---- the line of a name that stays missing

-- the first record that wants the name, by its place in its module: as faults have it, and as `show` prints it
abbrev pub record_text : Option ℕ → List ℕ
record_text None = []
record_text (Some place) =
    concat (codes ": record " ∷ decimal place ∷ codes " (" ∷ hexadecimal 8 place ∷ codes ")" ∷ [])

-- the name in the header of the module that wants it
abbrev pub header_text : Option (List ℕ) → List ℕ
header_text None = []
header_text (Some name) = codes ", wanted by " ++ printed_name name

-- a module wants the name
abbrev pub wanting_text : (paths : List (Bor (List ℕ))) → (name : List ℕ) → Held → List ℕ
wanting_text paths name m = concat (codes "doslink: " ∷ module_word paths m ∷ codes ": " ∷ printed_name name
    ∷ codes " is missing" ∷ record_text (wanting_place name (module_records m.bytes 0))
    ∷ header_text (header_name m.bytes) ∷ [])

-- a module offers a name
abbrev pub offering_text : (paths : List (Bor (List ℕ))) → (name : List ℕ) → Held → List ℕ
offering_text paths name m = concat (codes "; " ∷ printed_name name ∷ codes " is in " ∷ module_word paths m ∷ [])

-- the module of those that are linked, or of the members of libraries
abbrev pub whose_module : (linked members : List Held) → Whose → Option Held
whose_module linked members (whose.Module index) = slice_get linked index
whose_module linked members (whose.Member library member) = slice_get members member

-- a name that is offered, where there is one
abbrev pub like_text : (paths : List (Bor (List ℕ))) → (linked members : List Held) → Option Offered → List ℕ
like_text paths linked members None = []
like_text paths linked members (Some o) =
    option_map_or (offering_text paths o.name) (whose_module linked members o.whose) []

-- the first name that is offered and like one, by a module that is linked or else by a member
abbrev pub like_offered : (linked members : List Held) → (name : List ℕ) → Option Offered
like_offered linked members name = first_like (map needs linked) (candidates members) name

-- the line of a missing name: the module that wants it, and where a name like it is offered
abbrev pub missing_line : (paths : List (Bor (List ℕ))) → (linked members : List Held) → Wanted → List ℕ
missing_line paths linked members w =
    concat (option_map_or (wanting_text paths w.name) (slice_get linked w.wanted_by) []
    ∷ like_text paths linked members (like_offered linked members w.name) ∷ codes "\n" ∷ [])

-- how many of so many of a kind are told: all, or the first of them
abbrev pub told_count : (count : ℕ) → (tells_all : Bool) → ℕ
told_count count tells_all = if tells_all || nat_le count most_told then count else most_told

-- how many more there are, where there are more
abbrev pub rest_text : ℕ → List ℕ
rest_text count = if count == 0 then [] else more_line count

-- a line for each of a kind, or for each of the first, and how many more there are
abbrev pub told_lines : {X : Type 0} → (line : X → List ℕ) → List X → (tells_all : Bool) → List ℕ
told_lines line all tells_all =
    let told = told_count (length all) tells_all in
    flat_map line (take told all) ++ rest_text (length all - told)

-- the lines of missing names: of all, or of the first of them and how many more there are
abbrev pub missing_lines : (paths : List (Bor (List ℕ))) → (linked members : List Held) → List Wanted
    → (tells_all : Bool) → List ℕ
missing_lines paths linked members missing tells_all =
    told_lines (missing_line paths linked members) missing tells_all
