-- The files of a link, which are read, and libraries, which are looked up. `told` are the bytes of files by their
-- paths, where the world tells them.
use Rattle.std.specs.Prelude.{All, ◌≡◌, ◌≢◌, ◌==◌, ◌||◌, ◌&&◌, ◌⊎◌, Bool, not, ℕ, List, [], ◌∷◌, ◌++◌, map}
use Rattle.std.specs.Prelude.{string_bytes}
use Rattle.std.specs.Prelude.{Some, None, IfSome, if◌then◌else◌, true, false, take}
use Rattle.std.specs.declared.option.Option.{Option}
use Rattle.std.specs.List.{Contains}
use Rattle.omf_files.specs.declared.world.Looked.{Looked}
use Rattle.omf_library.specs.declared.files.FileKind.{FileKind}
use Rattle.omf_library.specs.declared.files.FileKind.TheVariants.{Object}
use Rattle.omf_library.specs.Ending.{modules_part}
use Rattle.omf_library.specs.Files.{file_kind}
use Rattle.doslink_files.specs.declared.fault.FilesFault.{FilesFault}
use Rattle.doslink_files.specs.declared.fault.FilesFault.TheVariants as fault
use Rattle.doslink_files.specs.declared.lookup.Found.{Found}
use Rattle.doslink_files.specs.declared.lookup.Found.TheVariants.{New, Known}
use Rattle.doslink_files.specs.declared.reading.InputFile.{InputFile}
use Rattle.doslink_files.specs.declared.reading.Sought.{Sought}
use Rattle.doslink_files.specs.declared.reading.Sought.TheVariants.{File, Library}
use Rattle.doslink_files.specs.Paths.{extensions, object_extensions, paths_of}
use Rattle.doslink_files.specs.Standing.{stands_regular}

-- the bytes of files
abbrev pub contents : {A : Type 0} → List (InputFile A) → List (List ℕ)
contents files = map (λ f. f.bytes.items) files

-- these are the bytes of a file, where they are told
abbrev pub IsTold : Option (List ℕ) → (bytes : List ℕ) → Type 0
IsTold None bytes = Unit {0}
IsTold (Some told) bytes = bytes ≡ told

-- a file begins with the header of a module: THEADR 80H, LHEADR 82H
abbrev pub has_header : List ℕ → Bool
has_header [] = false
has_header (first ∷ rest) = first == 0x80 || first == 0x82

-- it is neither a library nor an archive
abbrev pub is_object : FileKind → Bool
is_object Object = true
is_object _ = false

-- A file begins as none with modules does: as no module, library or archive. What is at fault is its first record.
abbrev pub is_foreign : List ℕ → Bool
is_foreign file = is_object (file_kind file) && not (has_header file)

-- so many bytes has the longest record: its type, a length word, and 65,535
abbrev pub longest_record : ℕ
longest_record = 65538

-- what is read of a file: what tells its modules, and of one without any what tells its fault
abbrev pub part_read : List ℕ → List ℕ
part_read file = if is_foreign file then take longest_record file else modules_part file

-- these are the bytes that are read of a file, where its bytes are told
abbrev pub IsModulesPart : Option (List ℕ) → (bytes : List ℕ) → Type 0
IsModulesPart None bytes = Unit {0}
IsModulesPart (Some told) bytes = bytes ≡ part_read told

-- a library of this name is looked up at this path, in this folder and in the others
abbrev pub IsPathOf : (folders : List (List ℕ)) → (name path : List ℕ) → Type 0
IsPathOf folders name path = Contains (paths_of (extensions name) folders name) path

-- this is the path of the library of this name, looked up in this folder and in the others, and these are its bytes, up
-- to the end of its modules
abbrev pub IsFound : (told : List ℕ → Option (List ℕ)) → (folders : List (List ℕ)) → (name path bytes : List ℕ) → Type 0
IsFound told folders name path bytes = IsPathOf folders name path × IsModulesPart (told path) bytes

-- this is the library of the name, looked up in this folder and in the others, where it is new
abbrev pub IsFoundNew : {A : Type 0} → (told : List ℕ → Option (List ℕ)) → (folders : List (List ℕ)) → (name : List ℕ)
    → Found A → Type 0
IsFoundNew told folders name (New file) = IsFound told folders name (string_bytes file.path) file.bytes.items
IsFoundNew told folders name Known = Unit {0}

-- what is found that is new is a regular file, where it is told what stands at its path
abbrev pub IsRegularNew : {A : Type 0} → (looks : Option (List ℕ → Option Looked)) → Found A → Type 0
IsRegularNew looks (New file) = IfSome looks (λ look. stands_regular look (string_bytes file.path) ≡ true)
IsRegularNew looks Known = Unit {0}

-- a module that is named by a path is looked up at this one, in this folder and in the others
abbrev pub IsObjectPath : (folders : List (List ℕ)) → (path found : List ℕ) → Type 0
IsObjectPath folders path found = Contains (paths_of (object_extensions path) folders path) found

-- these are the bytes of the module that is named by a path, up to its end
abbrev pub IsFileOf : (told : List ℕ → Option (List ℕ)) → (folders : List (List ℕ)) → (path bytes : List ℕ) → Type 0
IsFileOf told folders path bytes = (found : List ℕ) × IsObjectPath folders path found × IsModulesPart (told found) bytes

-- these are the bytes of what is wanted: of the module at a path, looked up in the folders of objects, or of the
-- library of a name, looked up in those of libraries
abbrev pub IsSought : (told : List ℕ → Option (List ℕ)) → (objects libraries : List (List ℕ)) → Sought
    → (bytes : List ℕ) → Type 0
IsSought told objects libraries (File path) bytes = IsFileOf told objects path.now bytes
IsSought told objects libraries (Library name) bytes = (path : List ℕ) × IsFound told libraries name.now path bytes

-- a file is a library or an archive
abbrev pub is_library : (bytes : List ℕ) → Bool
is_library bytes = not (is_object (file_kind bytes))

-- what is wanted is left out behind these files: it is a library or an archive, and its bytes are those of one of them
abbrev pub IsLeftOut : (told : List ℕ → Option (List ℕ)) → (objects libraries before : List (List ℕ)) → Sought → Type 0
IsLeftOut told objects libraries before one =
    (bytes : List ℕ) × IsSought told objects libraries one bytes × (is_library bytes ≡ true) × Contains before bytes

-- The files are those that are wanted, in their order, behind others that stand before them: each one's bytes are the
-- next file, or it is left out.
abbrev pub AreSoughtBehind : (told : List ℕ → Option (List ℕ)) → (objects libraries before : List (List ℕ))
    → List Sought → (files : List (List ℕ)) → Type 0
AreSoughtBehind told objects libraries before [] [] = Unit {0}
AreSoughtBehind told objects libraries before [] (bytes ∷ files) = ⊥
AreSoughtBehind told objects libraries before (one ∷ sought) [] =
    IsLeftOut told objects libraries before one × AreSoughtBehind told objects libraries before sought []
AreSoughtBehind told objects libraries before (one ∷ sought) (bytes ∷ files) =
    (IsSought told objects libraries one bytes
    × AreSoughtBehind told objects libraries (before ++ bytes ∷ []) sought files)
    ⊎ (IsLeftOut told objects libraries before one
    × AreSoughtBehind told objects libraries before sought (bytes ∷ files))

-- The files are those that are wanted, in their order, but for libraries and archives whose bytes stand among the files
-- before. A module is there as often as it is wanted.
abbrev pub AreSought : (told : List ℕ → Option (List ℕ)) → (objects libraries : List (List ℕ)) → List Sought
    → (files : List (List ℕ)) → Type 0
AreSought told objects libraries sought files = AreSoughtBehind told objects libraries [] sought files

-- the path or the name of what is wanted
abbrev pub sought_name : Sought → List ℕ
sought_name (File path) = path.now
sought_name (Library name) = name.now

-- some of these names are told as those of what isn't read, unless there is no memory
abbrev pub AreUnread : {A : Type 0} → (names : List (List ℕ)) → FilesFault A → Type 0
AreUnread names fault.Memory = Unit {0}
AreUnread names (fault.Unread unread) =
    (unread.items ≢ []) × All (λ one. Contains names one.name.now) unread.items
