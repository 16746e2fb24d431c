-- What is printed of what a record says, behind the name of its type.
use Rattle.std.specs.Prelude.{ℕ, Bool, if◌then◌else◌, List, [], ◌∷◌, ◌++◌, length, Some, None, codes}
use Rattle.std.specs.Prelude.{decimal}
use Rattle.std.specs.declared.option.Option.{Option}
use Rattle.std.specs.List.{concat, flat_map}
use Rattle.omf_record.specs.declared.externals.Line.{Line}
use Rattle.omf_record.specs.declared.externals.PublicBase.{PublicBase}
use Rattle.omf_record.specs.Record.{Block, External, Public, Record, Theadr, Coment, Modend, Extdef, Pubdef, Linnum}
use Rattle.omf_record.specs.Record.{Lnames, Segdef, Grpdef, Fixupp, Ledata, Lidata}
use Rattle.omf_types.specs.declared.types.CommentClass.{CommentClass}
use Rattle.omf_text.specs.Printing.{hexadecimal}
use Rattle.omf_wide.specs.declared.externals.ListedExternal.{ListedExternal}
use Rattle.omf_wide.specs.declared.fixups.WideReference.{WideReference}
use Rattle.omf_wide.specs.declared.fixups.WideSubrecord.{WideSubrecord}
use Rattle.omf_wide.specs.declared.segments.WideSegment.{WideSegment}
use Rattle.omf_wide.specs.Said.{Said, Plain, Cextdef, Fixupp as WideFixupp, Modend as WideModend, Segdef as WideSegdef}
use Rattle.doslib_show.specs.Data.{data_rows}
use Rattle.doslib_show.specs.Meaning.{Meaning, Says, SaysMore, Comments, Unknown, Wrong}
use Rattle.doslib_show.specs.More.{more_text}
use Rattle.doslib_show.specs.Names.{Names, named}
use Rattle.doslib_show.specs.Rows as rows
use Rattle.doslib_show.specs.Rows.{name_rest, rest}
use Rattle.doslib_show.specs.Types.{class_title, is_text}

-- bytes of which nothing is known
abbrev pub unknown_text : List ℕ → List ℕ
unknown_text body = rest (codes " bytes " ∷ decimal (length body) ∷ []) ++ data_rows 0 body

-- the bytes of a comment, which are a text or aren't
abbrev pub comment_bytes : (text : Bool) → List ℕ → List ℕ
comment_bytes text bytes = if text then name_rest bytes else unknown_text bytes

-- COMENT: its type byte and its class, with what its comments are, and its text or its bytes
abbrev pub comment_text : (kind class : ℕ) → Option CommentClass → List ℕ → List ℕ
comment_text kind class known bytes =
    concat (codes " type " ∷ hexadecimal 2 kind ∷ codes " class " ∷ hexadecimal 2 class ∷ [])
    ++ (class_title known ++ comment_bytes (is_text known) bytes)

-- MODEND: whether the module is the main one, and where the program starts
abbrev pub end_text : Names → (main : Bool) → Option WideReference → List ℕ
end_text names main None = rest (rows.flag main (codes " main") ∷ [])
end_text names main (Some start) = rest (rows.flag main (codes " main") ∷ codes " start " ∷ rows.reference names start)

-- SEGDEF
abbrev pub segment_text : Names → WideSegment → List ℕ
segment_text names s =
    rest (codes " " ∷ named names.listed s.name ∷ codes " class " ∷ named names.listed s.class
    ∷ codes " overlay " ∷ named names.listed s.overlay ∷ codes " " ∷ rows.alignment s.alignment
    ∷ codes " " ∷ rows.combination s.combination ∷ codes " length " ∷ decimal s.length
    ∷ rows.flag s.big (codes " big") ∷ rows.flag s.use32 (codes " use32") ∷ [])

-- ---- records of more than a line

-- PUBDEF
abbrev pub publics_text : Names → PublicBase → List Public → List ℕ
publics_text names base publics = rest (rows.public_base names base) ++ flat_map rows.public_row publics

-- LINNUM
abbrev pub lines_text : Names → (group segment : ℕ) → List Line → List ℕ
lines_text names group segment lines = rest (rows.segment_base names group segment) ++ flat_map rows.line_row lines

-- LNAMES
abbrev pub names_text : List (List ℕ) → List ℕ
names_text new = rest [] ++ flat_map rows.name_row new

-- EXTDEF
abbrev pub externals_text : List External → List ℕ
externals_text externals = rest [] ++ flat_map rows.external_row externals

-- CEXTDEF
abbrev pub listed_text : Names → List ListedExternal → List ℕ
listed_text names externals = rest [] ++ flat_map (rows.listed_row names) externals

-- GRPDEF
abbrev pub group_text : Names → (name : ℕ) → List ℕ → List ℕ
group_text names name segments =
    rest (codes " " ∷ named names.listed name ∷ []) ++ flat_map (rows.component_row names) segments

-- LEDATA
abbrev pub data_text : Names → (segment offset : ℕ) → List ℕ → List ℕ
data_text names segment offset bytes =
    rest (codes " segment " ∷ named names.segments segment ∷ codes " offset " ∷ hexadecimal 4 offset
    ∷ codes " bytes " ∷ decimal (length bytes) ∷ []) ++ data_rows offset bytes

-- LIDATA
abbrev pub repeated_text : Names → (segment offset : ℕ) → List Block → List ℕ
repeated_text names segment offset blocks =
    rest (codes " segment " ∷ named names.segments segment ∷ codes " offset " ∷ hexadecimal 4 offset ∷ [])
    ++ flat_map rows.block_row blocks

-- FIXUPP
abbrev pub subrecords_text : Names → List WideSubrecord → List ℕ
subrecords_text names subrecords = rest [] ++ flat_map (rows.subrecord_row names) subrecords

-- ---- any record

-- what one of the fourteen says. Comments have a meaning of their own, and segments, fix-ups and ends of modules are
-- told as those of records of 32 bits
unfoldable pub record_text : Names → Record → List ℕ
record_text names (Theadr name) = name_rest name
record_text names (Extdef local externals) = externals_text externals
record_text names (Pubdef local base publics) = publics_text names base publics
record_text names (Linnum group segment lines) = lines_text names group segment lines
record_text names (Lnames new) = names_text new
record_text names (Grpdef name segments) = group_text names name segments
record_text names (Ledata segment offset bytes) = data_text names segment offset bytes
record_text names (Lidata segment offset blocks) = repeated_text names segment offset blocks
record_text names (Modend main start) = rest []
record_text names (Coment kind class bytes) = rest []
record_text names (Segdef segment) = rest []
record_text names (Fixupp subrecords) = rest []

-- what a record says
unfoldable pub said_text : Names → Said → List ℕ
said_text names (Plain r) = record_text names r
said_text names (WideFixupp wide subrecords) = subrecords_text names subrecords
said_text names (WideModend wide main start) = end_text names main start
said_text names (Cextdef new) = listed_text names new
said_text names (WideSegdef wide segment) = segment_text names segment

-- one that is wrong
abbrev pub wrong_text : List ℕ → (at : ℕ) → List ℕ
wrong_text body at =
    rest (codes " wrong at byte " ∷ decimal at ∷ codes " of " ∷ decimal (length body) ∷ []) ++ data_rows 0 body

-- what is printed of a body that means this
abbrev pub meaning_text : Names → (body : List ℕ) → Meaning → List ℕ
meaning_text names body (Says said) = said_text names said
meaning_text names body (Comments kind class known bytes) = comment_text kind class known bytes
meaning_text names body (SaysMore more) = more_text names more
meaning_text names body Unknown = unknown_text body
meaning_text names body (Wrong at) = wrong_text body at
