-- What `show` prints of a file: each record of its members.
use Rattle.std.specs.Prelude.{◌≡◌, ℕ, List, [], ◌∷◌, ◌++◌, All, length, map, codes}
use Rattle.std.specs.declared.option.Option.{Option}
use Rattle.std.specs.List.{concat, flat_map}
use Rattle.omf_frame.specs.Frame.{Frame}
use Rattle.omf_library.specs.declared.files.FileKind.{FileKind}
use Rattle.omf_library.specs.Files.{file_kind}
use Rattle.omf_library.specs.Members.{PlainMember}
use Rattle.omf_library.specs.Records.{module_records}
use Rattle.omf_types.specs.declared.types.RecordType.{RecordType}
use Rattle.omf_types.specs.Types.{IsTypeOf}
use Rattle.omf_text.specs.Printing.{hexadecimal}
use Rattle.doslib_text.specs.Faults.{located, place_behind}
use Rattle.doslib_text.specs.Listing.{member_line, title}
use Rattle.doslib_text.specs.Parts.{whole_members}
use Rattle.doslib_show.specs.Meaning.{Meaning, Wrong, Means, names_after}
use Rattle.doslib_show.specs.Names.{Names, no_names}
use Rattle.doslib_show.specs.Said.{meaning_text}
use Rattle.doslib_show.specs.Types.{type_name}

-- ---- a record

-- a record, its type, where the standard lists it, and what it means
pub record Read : Type 0 where
  pub frame : Frame
  pub type : Option RecordType
  pub means : Meaning

-- it does
abbrev pub IsRead : Read → Type 0
IsRead r = IsTypeOf r.frame.kind r.type × Means r.frame.kind r.frame.body r.means

-- the place of a record in the file, and its type
abbrev pub head_text : (place kind : ℕ) → Option RecordType → List ℕ
head_text place kind type = concat (codes "    " ∷ hexadecimal 8 place ∷ codes " " ∷ []) ++ type_name kind type

-- what is printed of a record of a module that begins at a place of the file, by the names that those before it have
abbrev pub read_text : (begin : ℕ) → Names → Read → List ℕ
read_text begin names r =
    head_text (place_behind begin r.frame.place) r.frame.kind r.type ++ meaning_text names r.frame.body r.means

-- the line of its fault, where its body is none of its type
abbrev pub wrong_line : (path : List ℕ) (begin : ℕ) → Frame → Meaning → List ℕ
wrong_line path begin frame (Wrong at) = located path (6, codes "Body") (place_behind begin frame.place)
wrong_line path begin frame _ = []

abbrev pub read_fault : (path : List ℕ) (begin : ℕ) → Read → List ℕ
read_fault path begin r = wrong_line path begin r.frame r.means

-- ---- a member

-- what is printed of records, the first of which stands behind these names, in a module that begins at a place of the
-- file
abbrev pub reads_text : (begin : ℕ) → Names → List Read → List ℕ
reads_text begin names [] = []
reads_text begin names (r ∷ rs) = read_text begin names r ++ reads_text begin (names_after names r.means) rs

-- a member and its records
pub record ReadMember : Type 0 where
  pub member : PlainMember
  pub reads : List Read

-- they are its records, up to the first that ends a module, or before the first that is at fault
abbrev pub IsReadMember : ReadMember → Type 0
IsReadMember m = (map (λ (r : Read). r.frame) m.reads ≡ module_records m.member.bytes 0) × All IsRead m.reads

-- what is printed of it: the line of `list`, and its records
abbrev pub member_text : ReadMember → List ℕ
member_text m = member_line m.member ++ reads_text m.member.place no_names m.reads

-- the lines of the faults of its records' bodies
abbrev pub member_faults : (path : List ℕ) → ReadMember → List ℕ
member_faults path m = flat_map (read_fault path m.member.place) m.reads

-- ---- a file

-- what is printed of a file of this kind with these members, and the lines of the faults of their records' bodies
pub record Shown (kind : FileKind) (path : List ℕ) (members : List PlainMember) (text faults : List ℕ) : Type 0 where
  pub all : List ReadMember
  pub these : map (λ (m : ReadMember). m.member) all ≡ members
  pub are : All IsReadMember all
  pub text_is : text ≡ title kind path (length members) ++ flat_map member_text all
  pub faults_are : faults ≡ flat_map (member_faults path) all

-- of the file with these bytes at a path: its members, and of one at fault those before its fault
unfoldable pub IsShow : (path file : List ℕ) (text faults : List ℕ) → Type 0
IsShow path file text faults = Shown (file_kind file) path (whole_members file) text faults
