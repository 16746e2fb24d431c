-- How the code sees files whose modules are taken, and changes of a library.
use Rattle.std.specs.Prelude.{◌≡◌, ℕ, if◌then◌else◌, List, [], ◌∷◌, ◌++◌, IfOk, map, max, Some, None, Ok, Err}
use Rattle.std.specs.declared.option.Option.{Option}
use Rattle.std.specs.declared.result.Result.{Result}
use Rattle.std.specs.Borrow.{Bor}
use Rattle.omf_library.specs.declared.files.FileKind.{FileKind}
use Rattle.omf_library.specs.declared.files.FileKind.TheVariants.{Object}
use Rattle.omf_library.specs.Files.{file_kind}
use Rattle.omf_library.specs.Members.{PlainMember}
use Rattle.omf_librarian.specs.declared.changing.ChangeFault.{ChangeFault}
use Rattle.omf_librarian.specs.declared.changing.ChangeFault.TheVariants.{Missing, Memory}
use Rattle.doslink_files.specs.Files.{IsTold}
use Rattle.doslink_files.specs.declared.fault.ReadFault.{ReadFault}
use Rattle.doslib_text.specs.Faults.{list_faults}
use Rattle.doslib_text.specs.Parts.{kept_members, whole_members}
use Rattle.doslib_text.specs.declared.parts.Whole.{Whole}
use Rattle.doslib_words.specs.Words.{texts}
use Rattle.doslib_jobs.specs.declared.changing.Change.{Change}
use Rattle.doslib_jobs.specs.declared.changing.Change.TheVariants.{Made, Added, Replaced, Deleted}
use Rattle.doslib_jobs.specs.declared.changing.Extracted.{Extracted}
use Rattle.doslib_jobs.specs.declared.changing.Parts.{Parts}
use Rattle.doslib_jobs.specs.declared.changing.Refused.{Refused}
use Rattle.doslib_jobs.specs.declared.changing.Refused.TheVariants as refused
use Rattle.doslib_jobs.specs.declared.outcome.Outcome.{Outcome}
use Rattle.doslib_jobs.specs.declared.taking.Taken.{Taken}
use Rattle.doslib_jobs.specs.Jobs.{Does, IsToldOf, Ran, Takes}
use Rattle.doslib_jobs.specs.Libraries.{NoMember, NotLibrary, Refusal, Source, added, all_deleted, all_modules}
use Rattle.doslib_jobs.specs.Libraries.{all_replaced, in_library, is_library, made, modules_in, source_of}
use Rattle.doslib_jobs.specs.LibraryLines.{refusal_line}
use Rattle.doslib_jobs.specs.Reading.{faults_status, file_status}

-- ---- files

-- a number and a name, without where the name lies in memory
abbrev pub label_said : ℕ × Bor (List ℕ) → ℕ × List ℕ
label_said label = (label.0, label.1.now)

-- what a file is, and the members of it that are whole, where it was read
abbrev pub kind_of : {A : Type 0} → Option (Whole A) → FileKind
kind_of None = Object
kind_of (Some w) = w.kind

abbrev pub members_of : {A : Type 0} → Option (Whole A) → List PlainMember
members_of None = []
members_of (Some w) = kept_members w

-- a file that was taken
abbrev pub source_said : {A : Type 0} → Taken A → Source
source_said t = record { path = t.path.now; kind = kind_of t.whole; members = members_of t.whole }

-- The file with these bytes at a path was taken, and its faults were told.
pub record TakesBytes {A B : Type 0} (path bytes : List ℕ) (before after : Outcome A) (taken : Whole B) : Type 0 where
  pub kind : taken.kind ≡ file_kind bytes
  pub members : kept_members taken ≡ whole_members bytes
  pub lines : after.lines.items ≡ before.lines.items ++ list_faults path bytes
  pub status : after.status ≡ max before.status (faults_status (list_faults path bytes))

-- The file at a path was taken, or isn't read; its faults were told, or why.
pub record TakesFile {A : Type 0} (told : List ℕ → Option (List ℕ)) (path : List ℕ) (before after : Outcome A)
    (source : Source) : Type 0 where
  pub bytes : Result (List ℕ) ReadFault
  pub faults : List ℕ
  pub is_told : IfOk bytes (IsTold (told path))
  pub are : IsToldOf Takes path bytes [] faults
  pub lines : after.lines.items ≡ before.lines.items ++ faults
  pub greatest_is : after.status ≡ max before.status (file_status bytes faults)
  pub source_is : source ≡ source_of path bytes

-- The files at these paths were taken, and these are they; whatever was printed before.
pub record HasTakenBehind (told : List ℕ → Option (List ℕ)) (paths : List (List ℕ)) (sources : List Source)
    (lines : List ℕ) (status : ℕ) (old : Option (List ℕ)) : Type 0 where
  pub ran : Ran Takes told paths old old lines status
  pub sources_are : sources ≡ map (λ r. source_of r.path r.bytes) ran.reads

abbrev pub HasTaken : (told : List ℕ → Option (List ℕ)) → (paths : List (List ℕ)) → (sources : List Source)
    → (lines : List ℕ) → (status : ℕ) → Type 0
HasTaken told paths sources lines status = (old : Option (List ℕ)) → HasTakenBehind told paths sources lines status old

-- a job did what it does with the files at these paths; whatever was printed before
abbrev pub DoesBy : (told : List ℕ → Option (List ℕ)) → (paths : List (List ℕ))
    → (does : List Source → (lines : List ℕ) → (status : ℕ) → Type 0) → (lines : List ℕ) → (status : ℕ)
    → Type 0
DoesBy told paths does lines status = (old : Option (List ℕ)) → Does told paths does old old lines status

-- ---- changes

-- the answer is what stands, or why there is none; or there was no memory
abbrev pub Gives : {X Y : Type 0} → (X → Y) → Result X Refused → Result Y Refusal → Type 0
Gives view (Ok x) stands = stands ≡ Ok (view x)
Gives view (Err refused.Memory) stands = Unit {0}
Gives view (Err refused.NotLibrary) stands = stands ≡ Err NotLibrary
Gives view (Err (refused.NoMember name)) stands = stands ≡ Err (NoMember name.now)

-- why members aren't changed, where this name was asked for
abbrev pub IsRefusedFor : Refused → ChangeFault → (name : List ℕ) → Type 0
IsRefusedFor (refused.NoMember given) Missing name = given.now ≡ name
IsRefusedFor refused.Memory Memory name = Unit {0}
IsRefusedFor _ _ name = ⊥

-- its line
abbrev pub refused_line : (path : List ℕ) → Refused → List ℕ
refused_line path refused.Memory = []
refused_line path refused.NotLibrary = refusal_line path NotLibrary
refused_line path (refused.NoMember name) = refusal_line path (NoMember name.now)

-- the members of a library, which is the first of the files, and the modules of the others
abbrev pub library_parts : List Source → Result (List (List ℕ) × List (List ℕ)) Refusal
library_parts [] = Err NotLibrary
library_parts (library ∷ sources) =
    if is_library library.kind then Ok (modules_in library, all_modules sources) else Err NotLibrary

abbrev pub parts_said : {A : Type 0} → Parts A → List (List ℕ) × List (List ℕ)
parts_said p = (texts p.members.items, texts p.more.items)

-- what a word makes of a library
abbrev pub change_of : Change → List Source → Result (List (List ℕ)) Refusal
change_of Made = made
change_of Added = in_library added
change_of Replaced = in_library all_replaced
change_of (Deleted names) = in_library (λ members more. all_deleted (texts names.now) members)

-- a member with the name that was asked for
abbrev pub extracted_said : Extracted → List ℕ × List ℕ
extracted_said e = (e.name.now, e.bytes.now)
