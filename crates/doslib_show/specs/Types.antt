-- How types of records and classes of comments are printed (TIS OMF 1.1, "Record Types" and "COMENT").
use Rattle.std.specs.Prelude.{ℕ, Bool, true, false, ◌%◌, ◌==◌, if◌then◌else◌, List, [], ◌∷◌, Some, None, codes}
use Rattle.std.specs.declared.option.Option.{Option}
use Rattle.std.specs.List.{concat}
use Rattle.omf_text.specs.Printing.{hexadecimal}
use Rattle.omf_types.specs.declared.types.CommentClass.{CommentClass}
use Rattle.omf_types.specs.declared.types.CommentClass.TheVariants as class
use Rattle.omf_types.specs.declared.types.RecordType.{RecordType}
use Rattle.omf_types.specs.Types.{class_row, type_row}

-- the mark of a type of 32 bits: its number is odd
abbrev pub wide_mark : (kind : ℕ) → List ℕ
wide_mark kind = if kind % 2 == 1 then codes "32" else []

-- the name of a type, and its number where the standard lists none
abbrev pub type_name : (kind : ℕ) → Option RecordType → List ℕ
type_name kind (Some type) = concat ((type_row type).name ∷ wide_mark kind ∷ [])
type_name kind None = concat (hexadecimal 2 kind ∷ codes "H" ∷ [])

-- what the comments of a class are, where it is known
abbrev pub class_title : Option CommentClass → List ℕ
class_title (Some c) = concat (codes " " ∷ (class_row c).title ∷ [])
class_title None = []

-- the classes whose comments are texts
abbrev pub is_text : Option CommentClass → Bool
is_text (Some class.Translator) = true
is_text (Some class.Copyright) = true
is_text (Some class.OldDefaultLibrary) = true
is_text (Some class.MemoryModel) = true
is_text (Some class.DefaultLibrary) = true
is_text (Some class.Libmod) = true
is_text (Some class.Exestr) = true
is_text (Some class.Text) = true
is_text (Some class.Compiler) = true
is_text (Some class.Date) = true
is_text (Some class.User) = true
is_text (Some class.CommandLine) = true
is_text _ = false
