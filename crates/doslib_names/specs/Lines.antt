-- The lines of names.
use Rattle.std.specs.Prelude.{ℕ, ◌==◌, Bool, not, if◌then◌else◌, List, [], ◌∷◌, ◌++◌, length, codes, slice_get}
use Rattle.std.specs.Prelude.{unwrap_or}
use Rattle.std.specs.List.{concat, flat_map}
use Rattle.std.specs.Option.{option_map_or}
use Rattle.omf_library.specs.declared.files.FileKind.{FileKind}
use Rattle.omf_library.specs.declared.files.FileKind.TheVariants.{Object, Library, Archive}
use Rattle.omf_library.specs.Wanting.{wanting_place}
use Rattle.omf_place.specs.declared.names.Names.{Names as Choice}
use Rattle.omf_search.specs.Said.{Wanted}
use Rattle.omf_text.specs.Printing.{hexadecimal, name_byte, printed_name}
use Rattle.doslib_text.specs.Faults.{place_behind}
use Rattle.doslib_text.specs.Listing.{shown_name}
use Rattle.doslib_names.specs.Names.{Doubled, Held, doubled, missing, records_of}

-- a name behind what is said of it
abbrev pub name_text : (word name : List ℕ) → List ℕ
name_text word name = concat (word ∷ printed_name name ∷ codes ": " ∷ [])

-- what stands behind the path of a file: the name that `list` prints of a member of a library or an archive
abbrev pub member_text : FileKind → (name : List ℕ) → List ℕ
member_text Object name = []
member_text Library name = concat (codes "(" ∷ flat_map name_byte name ∷ codes ")" ∷ [])
member_text Archive name = concat (codes "(" ∷ flat_map name_byte name ∷ codes ")" ∷ [])

-- how a module is told
abbrev pub module_text : Held → List ℕ
module_text h = h.path ++ member_text h.kind (shown_name h.member)

-- how the one with this index is
abbrev pub module_at : List Held → (index : ℕ) → List ℕ
module_at held index = option_map_or module_text (slice_get held index) []

-- the place in its file of the first record of a module that asks for a name
abbrev pub place_of : (name : List ℕ) → Held → ℕ
place_of name h = place_behind h.member.place (unwrap_or (wanting_place name (records_of h)) 0)

-- the line of a name that a module wants and none defines
abbrev pub missing_line : (name : List ℕ) → Held → List ℕ
missing_line name h =
    name_text (codes "missing ") name
    ++ (module_text h
    ++ concat (codes " wants it in the record at " ∷ hexadecimal 8 (place_of name h) ∷ codes "\n" ∷ []))

abbrev pub missing_text : List Held → Wanted → List ℕ
missing_text held w = option_map_or (missing_line w.name) (slice_get held w.wanted_by) []

-- the line of a name that two modules define
abbrev pub doubled_line : List Held → Doubled → List ℕ
doubled_line held d =
    name_text (codes "defined twice ") d.name
    ++ (module_at held d.first ++ (codes " and " ++ (module_at held d.second ++ codes " define it\n")))

-- the lines of what is amiss with names
abbrev pub amiss : Choice → List Held → List ℕ
amiss names held =
    flat_map (missing_text held) (missing names held) ++ flat_map (doubled_line held) (doubled names held)

unfoldable pub is_amiss : Choice → List Held → Bool
is_amiss names held = not (length (amiss names held) == 0)

-- what is printed of names
unfoldable pub names_text : Choice → List Held → List ℕ
names_text names held =
    if is_amiss names held then amiss names held else codes "each name that is wanted is defined once\n"
