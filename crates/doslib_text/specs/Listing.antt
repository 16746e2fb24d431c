-- What `list` prints of a file.
use Rattle.std.specs.Prelude.{ℕ, ◌==◌, if◌then◌else◌, List, [], ◌∷◌, ◌++◌, length, codes, decimal, unwrap_or}
use Rattle.std.specs.List.{concat, flat_map}
use Rattle.std.specs.Option.{option_and_then}
use Rattle.std.specs.Result.{result_ok}
use Rattle.omf_frame.specs.Frame.{Frame}
use Rattle.omf_library.specs.declared.files.FileKind.{FileKind}
use Rattle.omf_library.specs.declared.files.FileKind.TheVariants.{Object, Library, Archive}
use Rattle.omf_library.specs.Files.{file_kind}
use Rattle.omf_library.specs.Members.{PlainMember}
use Rattle.omf_library.specs.Names.{communal_names, library_names, offered_names, wanted_names}
use Rattle.omf_library.specs.Records.{header_name, module_records, record_at}
use Rattle.omf_text.specs.Printing.{hexadecimal, printed_name, right}
use Rattle.doslib_text.specs.Parts.{whole_members}

-- the word for what a file is
abbrev pub kind_word : FileKind → List ℕ
kind_word Object = codes "module "
kind_word Library = codes "library "
kind_word Archive = codes "archive "

-- the line of a file: what it is, its path, and how many members it has
abbrev pub title : FileKind → (path : List ℕ) → (count : ℕ) → List ℕ
title kind path count =
    concat (kind_word kind ∷ printed_name path ∷ codes " members " ∷ decimal count ∷ codes "\n" ∷ [])

-- the name in the record that heads a module (TIS OMF 1.1, "THEADR", "LHEADR"); none where no such record does
abbrev pub header_of : List ℕ → List ℕ
header_of bytes = unwrap_or (option_and_then header_name (result_ok (record_at bytes 0))) []

-- the name that a member is printed with: that of its header record where it has none of its own
abbrev pub shown_name : PlainMember → List ℕ
shown_name m = if length m.name == 0 then header_of m.bytes else m.name

-- the line of a member: its place in the file, how many bytes it has, and its name
abbrev pub member_line : PlainMember → List ℕ
member_line m =
    concat (codes "  " ∷ hexadecimal 8 m.place ∷ codes " " ∷ right 7 (decimal (length m.bytes)) ∷ codes " "
    ∷ printed_name (shown_name m) ∷ codes "\n" ∷ [])

-- the line of a name, behind a word
abbrev pub name_line : (word name : List ℕ) → List ℕ
name_line word name = concat (codes "    " ∷ word ∷ codes " " ∷ printed_name name ∷ codes "\n" ∷ [])

-- the lines of what the records of a module say of names
abbrev pub names_text : List Frame → List ℕ
names_text records =
    flat_map (name_line (codes "offers")) (offered_names records)
    ++ (flat_map (name_line (codes "communal")) (communal_names records)
    ++ (flat_map (name_line (codes "wants")) (wanted_names records)
    ++ flat_map (name_line (codes "library")) (library_names records)))

-- what is printed of a member
abbrev pub member_text : PlainMember → List ℕ
member_text m = member_line m ++ names_text (module_records m.bytes 0)

-- what is printed of a file of this kind with these members
abbrev pub listing : FileKind → (path : List ℕ) → List PlainMember → List ℕ
listing kind path members = title kind path (length members) ++ flat_map member_text members

-- what is printed of the file with these bytes at a path: its members, and of one at fault those before its fault
unfoldable pub list_text : (path file : List ℕ) → List ℕ
list_text path file = listing (file_kind file) path (whole_members file)
