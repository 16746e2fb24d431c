-- The types of records that the standard lists, with those that it calls obsolete, and the classes of comments (TIS OMF
-- 1.1, "Record Types" and "COMENT: Comment Record"; E9H is Borland's): each with its number and what it is called.
use Rattle.std.specs.Prelude.{◌≡◌, ℕ, ◌+◌, ◌==◌, Bool, true, false, ◌&&◌, ◌||◌, IsTrue, List, Some, None, codes}
use Rattle.std.specs.Borrow.{Bor}
use Rattle.std.specs.declared.option.Option.{Option}
use Rattle.omf_types.specs.declared.types.CommentClass.{CommentClass}
use Rattle.omf_types.specs.declared.types.CommentClass.TheVariants as classes
use Rattle.omf_types.specs.declared.types.RecordType.{RecordType}
use Rattle.omf_types.specs.declared.types.RecordType.TheVariants as types

-- ---- records

-- a type's number, whether the next number is that of its records of 32 bits, its name and its title
pub record TypeRow : Type 0 where
  pub number : ℕ
  pub wide : Bool
  pub name : List ℕ
  pub title : List ℕ

abbrev row : ℕ → Bool → (name title : List ℕ) → TypeRow
row number wide name title = record { number = number; wide = wide; name = name; title = title }

abbrev pub type_row : RecordType → TypeRow
type_row types.Rheadr = row 0x6E false (codes "RHEADR") (codes "R-Module Header Record")
type_row types.Regint = row 0x70 false (codes "REGINT") (codes "Register Initialization Record")
type_row types.Redata = row 0x72 false (codes "REDATA") (codes "Relocatable Enumerated Data Record")
type_row types.Ridata = row 0x74 false (codes "RIDATA") (codes "Relocatable Iterated Data Record")
type_row types.Ovldef = row 0x76 false (codes "OVLDEF") (codes "Overlay Definition Record")
type_row types.Endrec = row 0x78 false (codes "ENDREC") (codes "End Record")
type_row types.Blkdef = row 0x7A false (codes "BLKDEF") (codes "Block Definition Record")
type_row types.Blkend = row 0x7C false (codes "BLKEND") (codes "Block End Record")
type_row types.Debsym = row 0x7E false (codes "DEBSYM") (codes "Debug Symbols Record")
type_row types.Theadr = row 0x80 false (codes "THEADR") (codes "Translator Header Record")
type_row types.Lheadr = row 0x82 false (codes "LHEADR") (codes "Library Module Header Record")
type_row types.Pedata = row 0x84 false (codes "PEDATA") (codes "Physical Enumerated Data Record")
type_row types.Pidata = row 0x86 false (codes "PIDATA") (codes "Physical Iterated Data Record")
type_row types.Coment = row 0x88 false (codes "COMENT") (codes "Comment Record")
type_row types.Modend = row 0x8A true (codes "MODEND") (codes "Module End Record")
type_row types.Extdef = row 0x8C false (codes "EXTDEF") (codes "External Names Definition Record")
type_row types.Typdef = row 0x8E false (codes "TYPDEF") (codes "Type Definition Record")
type_row types.Pubdef = row 0x90 true (codes "PUBDEF") (codes "Public Names Definition Record")
type_row types.Locsym = row 0x92 false (codes "LOCSYM") (codes "Local Symbols Record")
type_row types.Linnum = row 0x94 true (codes "LINNUM") (codes "Line Numbers Record")
type_row types.Lnames = row 0x96 false (codes "LNAMES") (codes "List of Names Record")
type_row types.Segdef = row 0x98 true (codes "SEGDEF") (codes "Segment Definition Record")
type_row types.Grpdef = row 0x9A false (codes "GRPDEF") (codes "Group Definition Record")
type_row types.Fixupp = row 0x9C true (codes "FIXUPP") (codes "Fixup Record")
type_row types.Ledata = row 0xA0 true (codes "LEDATA") (codes "Logical Enumerated Data Record")
type_row types.Lidata = row 0xA2 true (codes "LIDATA") (codes "Logical Iterated Data Record")
type_row types.Libhed = row 0xA4 false (codes "LIBHED") (codes "Library Header Record")
type_row types.Libnam = row 0xA6 false (codes "LIBNAM") (codes "Library Module Names Record")
type_row types.Libloc = row 0xA8 false (codes "LIBLOC") (codes "Library Module Locations Record")
type_row types.Libdic = row 0xAA false (codes "LIBDIC") (codes "Library Dictionary Record")
type_row types.Comdef = row 0xB0 false (codes "COMDEF") (codes "Communal Names Definition Record")
type_row types.Bakpat = row 0xB2 true (codes "BAKPAT") (codes "Backpatch Record")
type_row types.Lextdef = row 0xB4 true (codes "LEXTDEF") (codes "Local External Names Definition Record")
type_row types.Lpubdef = row 0xB6 true (codes "LPUBDEF") (codes "Local Public Names Definition Record")
type_row types.Lcomdef = row 0xB8 false (codes "LCOMDEF") (codes "Local Communal Names Definition Record")
type_row types.Cextdef = row 0xBC false (codes "CEXTDEF") (codes "COMDAT External Names Definition Record")
type_row types.Comdat = row 0xC2 true (codes "COMDAT") (codes "Initialized Communal Data Record")
type_row types.Linsym = row 0xC4 true (codes "LINSYM") (codes "Symbol Line Numbers Record")
type_row types.Alias = row 0xC6 false (codes "ALIAS") (codes "Alias Definition Record")
type_row types.Nbkpat = row 0xC8 true (codes "NBKPAT") (codes "Named Backpatch Record")
type_row types.Llnames = row 0xCA false (codes "LLNAMES") (codes "Local Logical Names Definition Record")
type_row types.Vernum = row 0xCC false (codes "VERNUM") (codes "OMF Version Number Record")
type_row types.Vendext = row 0xCE false (codes "VENDEXT") (codes "Vendor-specific OMF Extension Record")

-- one of the type's numbers
abbrev pub is_of_type : RecordType → ℕ → Bool
is_of_type t kind =
    (kind == (type_row t).number) || ((type_row t).wide && (kind == (type_row t).number + 1))

-- the type of a number; none, where no type has it
abbrev pub IsTypeOf : ℕ → Option RecordType → Type 0
IsTypeOf kind (Some t) = IsTrue (is_of_type t kind)
IsTypeOf kind None = (t : RecordType) → IsTrue (is_of_type t kind) → ⊥

-- the name of the type of a number
abbrev pub IsNameOf : ℕ → Option (Bor (List ℕ)) → Type 0
IsNameOf kind (Some name) = (t : RecordType) × IsTrue (is_of_type t kind) × (name.now ≡ (type_row t).name)
IsNameOf kind None = (t : RecordType) → IsTrue (is_of_type t kind) → ⊥

-- ---- comments

-- a class's number and its title
pub record ClassRow : Type 0 where
  pub number : ℕ
  pub title : List ℕ

abbrev titled : ℕ → (title : List ℕ) → ClassRow
titled number title = record { number = number; title = title }

abbrev pub class_row : CommentClass → ClassRow
class_row classes.Translator = titled 0x00 (codes "translator")
class_row classes.Copyright = titled 0x01 (codes "copyright")
class_row classes.OldDefaultLibrary = titled 0x81 (codes "default library, as it was said first")
class_row classes.DosVersion = titled 0x9C (codes "version of DOS")
class_row classes.MemoryModel = titled 0x9D (codes "memory model")
class_row classes.Dosseg = titled 0x9E (codes "DOSSEG")
class_row classes.DefaultLibrary = titled 0x9F (codes "default library")
class_row classes.Extension = titled 0xA0 (codes "OMF extension")
class_row classes.DebugStyle = titled 0xA1 (codes "style of debug information")
class_row classes.PassSeparator = titled 0xA2 (codes "separator of the linker's passes")
class_row classes.Libmod = titled 0xA3 (codes "LIBMOD")
class_row classes.Exestr = titled 0xA4 (codes "EXESTR")
class_row classes.Incerr = titled 0xA6 (codes "INCERR")
class_row classes.Nopad = titled 0xA7 (codes "NOPAD")
class_row classes.Wkext = titled 0xA8 (codes "WKEXT")
class_row classes.Lzext = titled 0xA9 (codes "LZEXT")
class_row classes.Text = titled 0xDA (codes "comment")
class_row classes.Compiler = titled 0xDB (codes "compiler")
class_row classes.Date = titled 0xDC (codes "date")
class_row classes.Timestamp = titled 0xDD (codes "time stamp")
class_row classes.User = titled 0xDF (codes "user")
class_row classes.Dependency = titled 0xE9 (codes "dependency file")
class_row classes.CommandLine = titled 0xFF (codes "command line")

-- the class of a number; none, where no class has it
abbrev pub IsClassOf : ℕ → Option CommentClass → Type 0
IsClassOf number (Some c) = (class_row c).number ≡ number
IsClassOf number None = (c : CommentClass) → (class_row c).number ≡ number → ⊥
