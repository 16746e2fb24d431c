-- What is printed of what a record says of the types that came after Intel's (TIS OMF 1.1, the section of each).
use Rattle.std.specs.Prelude.{ℕ, List, [], ◌∷◌, ◌++◌, length, codes, decimal}
use Rattle.std.specs.List.{concat, flat_map}
use Rattle.omf_extended.specs.declared.comdats.Comdat.{Comdat}
use Rattle.omf_extended.specs.declared.comdats.ComdatAlignment.{ComdatAlignment}
use Rattle.omf_extended.specs.declared.comdats.ComdatAlignment.TheVariants as align
use Rattle.omf_extended.specs.declared.comdats.ComdatAllocation.{ComdatAllocation}
use Rattle.omf_extended.specs.declared.comdats.ComdatAllocation.TheVariants as alloc
use Rattle.omf_extended.specs.declared.comdats.ComdatSelection.{ComdatSelection}
use Rattle.omf_extended.specs.declared.comdats.ComdatSelection.TheVariants as select
use Rattle.omf_extended.specs.declared.patches.Patch.{Patch}
use Rattle.omf_extended.specs.declared.patches.PatchLocation.{PatchLocation}
use Rattle.omf_extended.specs.declared.patches.PatchLocation.TheVariants as location
use Rattle.omf_extended.specs.declared.symbols.SymbolLine.{SymbolLine}
use Rattle.omf_extended.specs.Said as said
use Rattle.omf_extended.specs.Said.{Extended, Standing}
use Rattle.omf_text.specs.Printing.{hexadecimal, printed_name}
use Rattle.omf_wide.specs.Communals.{Communal}
use Rattle.omf_wide.specs.declared.communals.Extent.{Extent}
use Rattle.omf_wide.specs.declared.communals.Extent.TheVariants as extent
use Rattle.doslib_show.specs.Data.{data_rows, row}
use Rattle.doslib_show.specs.Names.{Names, named}
use Rattle.doslib_show.specs.Rows.{flag, name_rest, public_base, rest}

-- ---- rows

-- how far a communal variable lies, and how long it is
abbrev pub extent_text : Extent → List ℕ
extent_text (extent.Near length) = concat (codes " near " ∷ decimal length ∷ [])
extent_text (extent.Far elements size) = concat (codes " far " ∷ decimal elements ∷ codes " x " ∷ decimal size ∷ [])
extent_text (extent.Other data_type) = concat (codes " data " ∷ hexadecimal 2 data_type ∷ [])

-- COMDEF
abbrev pub communal_row : Communal → List ℕ
communal_row c = row (printed_name c.name ∷ codes " type " ∷ decimal c.type_index ∷ extent_text c.extent ∷ [])

-- ALIAS
abbrev pub alias_row : Standing → List ℕ
alias_row a = row (printed_name a.name ∷ codes " is " ∷ printed_name a.substitute ∷ [])

-- LINSYM
abbrev pub symbol_row : SymbolLine → List ℕ
symbol_row l = row (codes "line " ∷ decimal l.number ∷ codes " offset " ∷ hexadecimal 4 l.offset ∷ [])

-- BAKPAT and NBKPAT: a place, and what is added to what stands there
abbrev pub patch_row : Patch → List ℕ
patch_row p = row (codes "at " ∷ hexadecimal 4 p.offset ∷ codes " add " ∷ hexadecimal 4 p.value ∷ [])

-- what it is added to
abbrev pub patch_word : PatchLocation → List ℕ
patch_word location.Byte = codes " byte"
patch_word location.Word = codes " word"
patch_word location.DoubleWord = codes " dword"

-- ---- COMDAT

abbrev pub selection_word : ComdatSelection → List ℕ
selection_word select.NoMatch = codes " one"
selection_word select.PickAny = codes " any"
selection_word select.SameSize = codes " same-size"
selection_word select.ExactMatch = codes " same"

-- where it is put
abbrev pub allocation_text : Names → ComdatAllocation → List (List ℕ)
allocation_text names (alloc.Explicit base) = public_base names base
allocation_text names alloc.FarCode = codes " far code" ∷ []
allocation_text names alloc.FarData = codes " far data" ∷ []
allocation_text names alloc.Code32 = codes " code32" ∷ []
allocation_text names alloc.Data32 = codes " data32" ∷ []

abbrev pub comdat_alignment : ComdatAlignment → List ℕ
comdat_alignment align.OfSegment = codes ""
comdat_alignment align.Byte = codes " byte"
comdat_alignment align.Word = codes " word"
comdat_alignment align.Paragraph = codes " paragraph"
comdat_alignment align.Page = codes " page"
comdat_alignment align.DoubleWord = codes " dword"

-- its name, its flags, and how it is chosen
abbrev pub comdat_words : Names → Comdat → List ℕ
comdat_words names c =
    concat (codes " " ∷ named names.listed c.name ∷ flag c.continuation (codes " continued")
    ∷ flag c.iterated (codes " repeated") ∷ flag c.local (codes " local") ∷ flag c.in_code (codes " code")
    ∷ selection_word c.selection ∷ [])

-- at which multiple it begins, where its data begin, its type, and how many bytes they are
abbrev pub comdat_numbers : Comdat → (size : ℕ) → List ℕ
comdat_numbers c size =
    rest (comdat_alignment c.alignment ∷ codes " offset " ∷ hexadecimal 4 c.offset ∷ codes " type "
    ∷ decimal c.type_index ∷ codes " bytes " ∷ decimal size ∷ [])

-- what it says before its data
abbrev pub comdat_head : Names → Comdat → (size : ℕ) → List ℕ
comdat_head names c size =
    comdat_words names c ++ (concat (allocation_text names c.allocation) ++ comdat_numbers c size)

abbrev pub comdat_text : Names → Comdat → List ℕ → List ℕ
comdat_text names c bytes = comdat_head names c (length bytes) ++ data_rows c.offset bytes

-- ---- records

-- COMDEF and LCOMDEF: the variables, and the bytes of which nothing is known
abbrev pub communals_text : List Communal → List ℕ → List ℕ
communals_text communals unknown = rest [] ++ (flat_map communal_row communals ++ data_rows 0 unknown)

abbrev pub aliases_text : List Standing → List ℕ
aliases_text aliases = rest [] ++ flat_map alias_row aliases

-- LINSYM: the line numbers of a COMDAT
abbrev pub symbols_text : Names → (name : ℕ) → (continuation : List ℕ) → List SymbolLine → List ℕ
symbols_text names name continuation lines =
    rest (codes " " ∷ named names.listed name ∷ continuation ∷ []) ++ flat_map symbol_row lines

-- BAKPAT: of a segment
abbrev pub patches_text : Names → (segment : ℕ) → PatchLocation → List Patch → List ℕ
patches_text names segment location patches =
    rest (codes " segment " ∷ named names.segments segment ∷ patch_word location ∷ []) ++ flat_map patch_row patches

-- NBKPAT: of a COMDAT
abbrev pub named_patches_text : Names → (name : ℕ) → PatchLocation → List Patch → List ℕ
named_patches_text names name location patches =
    rest (codes " " ∷ named names.listed name ∷ patch_word location ∷ []) ++ flat_map patch_row patches

-- LIDATA of 32 bits: its blocks as they stand there
abbrev pub content_text : Names → (segment offset : ℕ) → List ℕ → List ℕ
content_text names segment offset content =
    rest (codes " segment " ∷ named names.segments segment ∷ codes " offset " ∷ hexadecimal 4 offset
    ∷ codes " bytes " ∷ decimal (length content) ∷ []) ++ data_rows 0 content

-- VENDEXT
abbrev pub vendor_text : (vendor : ℕ) → List ℕ → List ℕ
vendor_text vendor bytes =
    rest (codes " vendor " ∷ hexadecimal 4 vendor ∷ codes " bytes " ∷ decimal (length bytes) ∷ []) ++ data_rows 0 bytes

-- what a record says
unfoldable pub more_text : Names → Extended → List ℕ
more_text names (said.Comdef local communals unknown) = communals_text communals unknown
more_text names (said.Alias aliases) = aliases_text aliases
more_text names (said.Comdat wide comdat bytes) = comdat_text names comdat bytes
more_text names (said.Linsym wide continuation name lines) =
    symbols_text names name (flag continuation (codes " continued")) lines
more_text names (said.Bakpat wide segment location patches) = patches_text names segment location patches
more_text names (said.Nbkpat wide location name patches) = named_patches_text names name location patches
more_text names (said.Lidata segment offset content) = content_text names segment offset content
more_text names (said.Vernum text) = name_rest text
more_text names (said.Vendext vendor bytes) = vendor_text vendor bytes
