-- What becomes of a library: its modules, by files that were read and by names of members.
use Rattle.std.specs.Prelude.{ℕ, Bool, true, false, if◌then◌else◌, List, [], ◌∷◌, ◌++◌, map, Ok, Err}
use Rattle.std.specs.declared.result.Result.{Result}
use Rattle.std.specs.List.{flat_map}
use Rattle.std.specs.Option.{ok_or}
use Rattle.omf_library.specs.declared.files.FileKind.{FileKind}
use Rattle.omf_library.specs.declared.files.FileKind.TheVariants.{Object, Library, Archive}
use Rattle.omf_library.specs.Files.{file_kind}
use Rattle.omf_library.specs.Members.{PlainMember, joined}
use Rattle.omf_library.specs.Records.{result_and_then}
use Rattle.omf_librarian.specs.Changing.{deleted, extracted, replaced}
use Rattle.omf_librarian.specs.Modules.{module_name}
use Rattle.doslink_files.specs.declared.fault.ReadFault.{ReadFault}
use Rattle.doslib_names.specs.Names.{Held}
use Rattle.doslib_text.specs.Parts.{whole_members}

-- ---- the modules of files

-- a file that was read: its path, what it is, and the members of it that are whole
pub record Source : Type 0 where
  pub path : List ℕ
  pub kind : FileKind
  pub members : List PlainMember

-- that at a path of these bytes; one that isn't read has no members
abbrev pub source_of : (path : List ℕ) → Result (List ℕ) ReadFault → Source
source_of path (Ok file) = record { path = path; kind = file_kind file; members = whole_members file }
source_of path (Err fault) = record { path = path; kind = Object; members = [] }

-- its modules, as they stand there
abbrev pub modules_in : Source → List (List ℕ)
modules_in source = map (λ (m : PlainMember). m.bytes) source.members

-- the modules of files, in their order
abbrev pub all_modules : List Source → List (List ℕ)
all_modules sources = flat_map modules_in sources

-- a member with the path of its file, and what that is
abbrev pub held_as : (path : List ℕ) → FileKind → PlainMember → Held
held_as path kind m = record { path = path; kind = kind; member = m }

-- the members of a file so
abbrev pub held_in : Source → List Held
held_in source = map (held_as source.path source.kind) source.members

abbrev pub all_held : List Source → List Held
all_held sources = flat_map held_in sources

-- ---- changes

-- why a library isn't changed
pub data Refusal : Type 0 where
  NotLibrary : Refusal
  NoMember : (name : List ℕ) → Refusal

-- the modules of a library that is made of files
abbrev pub made : List Source → Result (List (List ℕ)) Refusal
made sources = Ok (all_modules sources)

abbrev pub is_library : FileKind → Bool
is_library Library = true
is_library Archive = false
is_library Object = false

-- the modules of a library, which is the first of the files: what its members and the modules of the others become
abbrev pub in_library : (change : (members more : List (List ℕ)) → Result (List (List ℕ)) Refusal)
    → List Source → Result (List (List ℕ)) Refusal
in_library change [] = Err NotLibrary
in_library change (library ∷ sources) =
    if is_library library.kind then change (modules_in library) (all_modules sources) else Err NotLibrary

-- modules behind the members
abbrev pub added : (members more : List (List ℕ)) → Result (List (List ℕ)) Refusal
added members more = Ok (members ++ more)

-- each module in the place of the first member of its name, one after the other
abbrev pub all_replaced : (members more : List (List ℕ)) → Result (List (List ℕ)) Refusal
all_replaced members [] = Ok members
all_replaced members (m ∷ more) = result_and_then (λ left. all_replaced left more)
    (ok_or (replaced (module_name m) m members) (NoMember (module_name m)))

-- without the first member of each name, one after the other
abbrev pub all_deleted : (names members : List (List ℕ)) → Result (List (List ℕ)) Refusal
all_deleted [] members = Ok members
all_deleted (name ∷ names) members = result_and_then (λ left. all_deleted names left)
    (ok_or (deleted name members) (NoMember name))

-- the first member of each name, with the name
abbrev pub all_extracted : (names members : List (List ℕ)) → Result (List (List ℕ × List ℕ)) Refusal
all_extracted [] members = Ok []
all_extracted (name ∷ names) members = result_and_then (λ m. joined ((name, m) ∷ []) (all_extracted names members))
    (ok_or (extracted name members) (NoMember name))
