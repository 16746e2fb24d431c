-- How a run ends: what its job came to, the lines that say so, and the exit status.
use Rattle.std.specs.Prelude.{◌≡◌, ◌⊎◌, ℕ, zero, suc, Bool, true, false, List, [], ◌∷◌, ◌++◌, All, IfOk, IfSome, map}
use Rattle.std.specs.Prelude.{max, codes, string_bytes, None, Ok, Err, if◌then◌else◌}
use Rattle.std.specs.declared.option.Option.{Option}
use Rattle.std.specs.declared.result.Result.{Result}
use Rattle.std.specs.Io.KnownBytes.{Appends}
use Rattle.std.specs.List.{flat_map}
use Rattle.clap.specs.Words.{Text, takes}
use Rattle.command_line.specs.declared.words_fault.WordsFault.{WordsFault}
use Rattle.command_line.specs.declared.words_fault.WordsFault.TheVariants.{Help, Wrong, Memory}
use Rattle.omf_frame.specs.declared.device.IoFault.{IoFault}
use Rattle.omf_frame.specs.Device.{Writes}
use Rattle.omf_files.specs.declared.world.Looked.{Looked}
use Rattle.omf_librarian.specs.Library.{PlainLibrary, library_of}
use Rattle.omf_librarian.specs.declared.fault.LibrarianFault.{LibrarianFault}
use Rattle.omf_library.specs.Files.{file_kind}
use Rattle.doslink_files.specs.Files.{IsTold}
use Rattle.doslink_files.specs.Standing.{BeginsAsInput}
use Rattle.doslink_files.specs.declared.fault.ReadFault.{ReadFault}
use Rattle.omf_place.specs.declared.names.Names.{Names}
use Rattle.omf_place.specs.declared.names.Names.TheVariants.{Exact, AsciiFolded}
use Rattle.doslib_names.specs.Lines.{is_amiss, names_text}
use Rattle.doslib_show.specs.Show.{IsShow}
use Rattle.doslib_text.specs.Faults.{list_faults}
use Rattle.doslib_text.specs.Listing.{list_text}
use Rattle.doslib_jobs.specs.declared.fault.Stopped.{Stopped}
use Rattle.doslib_jobs.specs.declared.fault.Stopped.TheVariants as stopped
use Rattle.doslib_words.specs.declared.words.Job.{Job}
use Rattle.doslib_words.specs.declared.words.Job.TheVariants.{List as ListJob, Show as ShowJob, Program as ProgramJob}
use Rattle.doslib_words.specs.declared.words.Job.TheVariants.{Match as MatchJob, Names as NamesJob, Make, Add, Delete}
use Rattle.doslib_words.specs.declared.words.Job.TheVariants.{Replace, Extract, Compare}
use Rattle.doslib_jobs.specs.Comparing.{Compares}
use Rattle.doslib_jobs.specs.Libraries.{NotLibrary, Refusal, Source, added, all_deleted, all_extracted, all_held}
use Rattle.doslib_jobs.specs.Libraries.{all_modules, all_replaced, in_library, is_library, made, source_of}
use Rattle.doslib_jobs.specs.LibraryLines.{doubled_lines, librarian_line, refusal_line}
use Rattle.doslib_jobs.specs.Matching.{Matches}
use Rattle.doslib_jobs.specs.Program.{TellsProgram}
use Rattle.doslib_jobs.specs.Reading.{file_status, greatest, unread_line, unwritten_line}
use Rattle.doslib_words.specs.Words.{IsJobFor, IsRefusalFor, doslib_command, texts}

-- ---- files

-- what `list` tells of a file: what is printed, and the lines of its faults
abbrev pub Lists : (path file text faults : List ℕ) → Type 0
Lists path file text faults = (text ≡ list_text path file) × (faults ≡ list_faults path file)

-- what `show` tells of it: the faults of its records' bodies stand before the others
abbrev pub Shows : (path file text faults : List ℕ) → Type 0
Shows path file text faults =
    (bodies : List ℕ) × IsShow path file text bodies × (faults ≡ bodies ++ list_faults path file)

-- a file of a job: its path, its bytes, or why it isn't read, what is printed of it, and the lines of its faults
pub record Read : Type 0 where
  pub path : List ℕ
  pub bytes : Result (List ℕ) ReadFault
  pub text : List ℕ
  pub faults : List ℕ

-- this is told of a file: what a command tells, or why it isn't read
abbrev pub IsToldOf : (tells : List ℕ → List ℕ → List ℕ → List ℕ → Type 0) → (path : List ℕ)
    → Result (List ℕ) ReadFault → (text faults : List ℕ) → Type 0
IsToldOf tells path (Ok bytes) text faults = tells path bytes text faults
IsToldOf tells path (Err fault) text faults = (text ≡ []) × (faults ≡ unread_line path fault)

-- these are its bytes, where those of the files by their paths are told, and this is told of them
abbrev pub IsRead : (tells : List ℕ → List ℕ → List ℕ → List ℕ → Type 0) → (told : List ℕ → Option (List ℕ)) → Read
    → Type 0
IsRead tells told r = IfOk r.bytes (IsTold (told r.path)) × IsToldOf tells r.path r.bytes r.text r.faults

-- the status of one
abbrev pub read_status : Read → ℕ
read_status r = file_status r.bytes r.faults

-- ---- jobs

-- The files at these paths were read, one for each: what is told of them was appended, these are the lines of their
-- faults, and this is the greatest status.
pub record Ran (tells : List ℕ → List ℕ → List ℕ → List ℕ → Type 0) (told : List ℕ → Option (List ℕ))
    (paths : List (List ℕ)) (old new : Option (List ℕ)) (lines : List ℕ) (status : ℕ) : Type 0 where
  pub reads : List Read
  pub these : map (λ r. r.path) reads ≡ paths
  pub are : All (IsRead tells told) reads
  pub text : Appends old new (flat_map (λ r. r.text) reads)
  pub faults : lines ≡ flat_map (λ r. r.faults) reads
  pub greatest_is : status ≡ greatest (map read_status reads)

-- ---- libraries

-- a library was put at a path, and it is told which names two of its modules have; or it couldn't be
abbrev pub IsPut : (stands : (path bytes : List ℕ) → Type 0) → (path : List ℕ) → (modules : List (List ℕ))
    → PlainLibrary → (lines : List ℕ) → (status : ℕ) → Type 0
IsPut stands path modules library lines status =
    (stands path library.bytes × (lines ≡ doubled_lines path modules library.doubled) × (status ≡ 0))
    ⊎ ((lines ≡ unwritten_line path) × (status ≡ 3))

-- the library that modules make was put there, or it is told why they make none
abbrev pub IsMade : (stands : (path bytes : List ℕ) → Type 0) → (path : List ℕ) → (modules : List (List ℕ))
    → Result PlainLibrary LibrarianFault → (lines : List ℕ) → (status : ℕ) → Type 0
IsMade stands path modules (Ok library) lines status = IsPut stands path modules library lines status
IsMade stands path modules (Err fault) lines status = (lines ≡ librarian_line path fault) × (status ≡ 1)

-- that of the modules of a change, or it is told why there is none
abbrev pub IsChanged : (stands : (path bytes : List ℕ) → Type 0) → (path : List ℕ)
    → Result (List (List ℕ)) Refusal → (lines : List ℕ) → (status : ℕ) → Type 0
IsChanged stands path (Ok modules) lines status = IsMade stands path modules (library_of None modules) lines status
IsChanged stands path (Err refusal) lines status = (lines ≡ refusal_line path refusal) × (status ≡ 1)

-- the file in which a member of this name is put
abbrev pub object_path : (name : List ℕ) → List ℕ
object_path name = name ++ codes ".OBJ"

abbrev pub StandsAsObject : (stands : (path bytes : List ℕ) → Type 0) → List ℕ × List ℕ → Type 0
StandsAsObject stands member = stands (object_path member.0) member.1

-- members, each with its name, were put in files of their own, up to one whose file isn't written
pub record ArePutUpTo (stands : (path bytes : List ℕ) → Type 0) (members : List (List ℕ × List ℕ)) (lines : List ℕ)
    (status : ℕ) : Type 0 where
  pub written : List (List ℕ × List ℕ)
  pub unwritten : List ℕ × List ℕ
  pub rest : List (List ℕ × List ℕ)
  pub these : members ≡ written ++ unwritten ∷ rest
  pub stand : All (StandsAsObject stands) written
  pub line : lines ≡ unwritten_line (object_path unwritten.0)
  pub failed : status ≡ 3

-- all of them, or up to such a one
abbrev pub ArePut : (stands : (path bytes : List ℕ) → Type 0) → List (List ℕ × List ℕ) → (lines : List ℕ)
    → (status : ℕ) → Type 0
ArePut stands members lines status =
    (All (StandsAsObject stands) members × (lines ≡ []) × (status ≡ 0)) ⊎ ArePutUpTo stands members lines status

-- those of these names were, or it is told which isn't there
abbrev pub AreFound : (stands : (path bytes : List ℕ) → Type 0) → (path : List ℕ)
    → Result (List (List ℕ × List ℕ)) Refusal → (lines : List ℕ) → (status : ℕ) → Type 0
AreFound stands path (Ok members) lines status = ArePut stands members lines status
AreFound stands path (Err refusal) lines status = (lines ≡ refusal_line path refusal) × (status ≡ 1)

abbrev pub IsExtracted : (stands : (path bytes : List ℕ) → Type 0) → (path : List ℕ) → (names : List (List ℕ))
    → (modules : List (List ℕ)) → (lines : List ℕ) → (status : ℕ) → Type 0
IsExtracted stands path names modules lines status = AreFound stands path (all_extracted names modules) lines status

-- a library isn't made where a module or an archive stands, and that is told
abbrev pub IsKept : (told : List ℕ → Option (List ℕ)) → (path : List ℕ) → (lines : List ℕ) → (status : ℕ) → Type 0
IsKept told path lines status =
    IfSome (told path) (λ file. BeginsAsInput file × (is_library (file_kind file) ≡ false))
    × (lines ≡ refusal_line path NotLibrary) × (status ≡ 1)

-- what is told of a file whose modules are taken: nothing is printed, and its faults are those that `list` tells
abbrev pub Takes : (path file text faults : List ℕ) → Type 0
Takes path file text faults = (text ≡ []) × (faults ≡ list_faults path file)

-- where no file was at fault, this holds of the lines and the status; else they are those of the files
abbrev pub IsBehind : (worst : ℕ) → (faults : List ℕ) → (holds : (lines : List ℕ) → (status : ℕ) → Type 0)
    → (lines : List ℕ) → (status : ℕ) → Type 0
IsBehind zero faults holds lines status = holds lines status
IsBehind (suc n) faults holds lines status = (lines ≡ faults) × (status ≡ suc n)

-- The files at these paths were read, and where none is at fault this was done with what they are. Nothing is printed.
pub record Does (told : List ℕ → Option (List ℕ)) (paths : List (List ℕ))
    (does : List Source → (lines : List ℕ) → (status : ℕ) → Type 0) (old new : Option (List ℕ))
    (lines : List ℕ) (status : ℕ) : Type 0 where
  pub unprinted : new ≡ old
  pub faults : List ℕ
  pub worst : ℕ
  pub ran : Ran Takes told paths old old faults worst
  pub done : IsBehind worst faults (does (map (λ r. source_of r.path r.bytes) ran.reads)) lines status

-- ---- names

-- which names agree
abbrev pub choice_of : (ignore_case : Bool) → Names
choice_of true = AsciiFolded
choice_of false = Exact

-- The files at these paths were read, and it is told which names are missing and which are defined twice; then the
-- status is 1 at least.
pub record TellsNames (told : List ℕ → Option (List ℕ)) (names : Names) (paths : List (List ℕ))
    (old new : Option (List ℕ)) (lines : List ℕ) (status : ℕ) : Type 0 where
  pub worst : ℕ
  pub ran : Ran Takes told paths old old lines worst
  pub text : Appends old new (names_text names (all_held (map (λ r. source_of r.path r.bytes) ran.reads)))
  pub ends : status
      ≡ max worst (if is_amiss names (all_held (map (λ r. source_of r.path r.bytes) ran.reads)) then 1 else 0)

-- ---- what a job comes to

-- What a job comes to, unless it stops. `told` are the bytes of files by their paths, where they are told, `looks` is
-- what stands at each path, where that is told, and `Stands` is what the world promises of a file of these bytes that
-- was put at a path.
abbrev pub Answers : (told : Text → Option (List ℕ)) → (looks : Option (Text → Option Looked))
    → (Stands : (path bytes : List ℕ) → Type 0) → Job → (old new : Option (List ℕ)) → Result (List ℕ × ℕ) Stopped
    → Type 0
Answers told looks Stands (ListJob files) old new answer =
    IfOk answer (λ o. Ran Lists told (texts files.items) old new o.0 o.1)
Answers told looks Stands (ShowJob files) old new answer =
    IfOk answer (λ o. Ran Shows told (texts files.items) old new o.0 o.1)
Answers told looks Stands (ProgramJob file image) old new answer =
    IfOk answer (TellsProgram told looks Stands file.now image old new)
Answers told looks Stands (MatchJob program files) old new answer =
    IfOk answer (Matches told program.now (texts files.items) old new)
Answers told looks Stands (Compare program other files) old new answer =
    IfOk answer (Compares told program.now other.now (texts files.items) old new)
Answers told looks Stands (NamesJob ignore_case files) old new answer =
    IfOk answer (λ o. TellsNames told (choice_of ignore_case) (texts files.items) old new o.0 o.1)
Answers told looks Stands (Make library files) old new answer =
    IfOk answer (λ o. Does told (texts files.items)
    (λ sources. IsChanged Stands library.now (made sources)) old new o.0 o.1
    ⊎ ((new ≡ old) × IsKept told library.now o.0 o.1))
Answers told looks Stands (Add library files) old new answer =
    IfOk answer (λ o. Does told (library.now ∷ texts files.items)
    (λ sources. IsChanged Stands library.now (in_library added sources)) old new o.0 o.1)
Answers told looks Stands (Delete library members) old new answer =
    IfOk answer (λ o. Does told (library.now ∷ [])
    (λ sources. IsChanged Stands library.now
    (in_library (λ olds more. all_deleted (texts members.items) olds) sources)) old new o.0 o.1)
Answers told looks Stands (Replace library files) old new answer =
    IfOk answer (λ o. Does told (library.now ∷ texts files.items)
    (λ sources. IsChanged Stands library.now (in_library all_replaced sources)) old new o.0 o.1)
Answers told looks Stands (Extract library members) old new answer =
    IfOk answer (λ o. Does told (library.now ∷ [])
    (λ sources. IsExtracted Stands library.now (texts members.items) (all_modules sources)) old new o.0 o.1)

-- the text was written, unless the run stopped
abbrev pub Prints : Text → (old new : Option (List ℕ)) → Result (List ℕ × ℕ) Stopped → Type 0
Prints text old new answer = IfOk answer (λ o. Appends old new text × (o.0 ≡ []) × (o.1 ≡ 0))

-- ---- the end

-- this was written to a sink, or a front of it where the sink failed
abbrev pub Tells : {K : Type 0} → (written : K → Option (List ℕ)) → (failures : K → ℕ) → (old new : K) → List ℕ
    → Type 0
Tells written failures old new text = (r : Result (Unit {0}) IoFault) × Writes written failures old new text r

-- the line that tells why a run stopped
abbrev pub stopped_line : Stopped → List ℕ
stopped_line stopped.Memory = codes "doslib: memory\n"
stopped_line stopped.Output = codes "doslib: output: 40 Device\n"

-- the lines of the faults of a run, or why it stopped
abbrev pub told_lines : Result (List ℕ × ℕ) Stopped → List ℕ
told_lines (Ok o) = o.0
told_lines (Err why) = stopped_line why

-- the status of a run: 3 where it stopped
abbrev pub exit_status : Result (List ℕ × ℕ) Stopped → ℕ
exit_status (Ok o) = o.1
exit_status (Err why) = 3

-- A run ends with the status and the lines of an answer of which this holds.
pub record Ends (Answered : Result (List ℕ × ℕ) Stopped → Type 0) (tells : List ℕ → Type 0) (code : ℕ) : Type 0 where
  pub answer : Result (List ℕ × ℕ) Stopped
  pub answered : Answered answer
  pub line : tells (told_lines answer)
  pub ends : code ≡ exit_status answer

-- how a run ends whose words are no job: with status 2 where they are wrong, and why is told; after help as its
-- printing did
abbrev pub EndsRefused : WordsFault → (old new : Option (List ℕ)) → (tells : List ℕ → Type 0) → ℕ → Type 0
EndsRefused (Wrong text) old new tells code = (new ≡ old) × tells (string_bytes text) × (code ≡ 2)
EndsRefused Memory old new tells code = (new ≡ old) × Ends (λ answer. answer ≡ Err stopped.Memory) tells code
EndsRefused (Help text) old new tells code = Ends (Prints (string_bytes text) old new) tells code

-- How a run ends: as the job does that the words ask for, or as one whose words are refused. Words that the command
-- takes are refused only as IsRefusalFor says.
abbrev pub Runs : (told : Text → Option (List ℕ)) → (looks : Option (Text → Option Looked))
    → (Stands : (path bytes : List ℕ) → Type 0) → (words : List Text) → (old new : Option (List ℕ))
    → (tells : List ℕ → Type 0) → ℕ → Type 0
Runs told looks Stands words old new tells code =
    ((job : Job) × IsJobFor words job × Ends (Answers told looks Stands job old new) tells code)
    ⊎ ((fault : WordsFault) × (takes doslib_command words ≡ true → IsRefusalFor words fault)
    × EndsRefused fault old new tells code)
