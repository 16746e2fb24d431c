-- What `match` comes to: which modules of files stand in the image of a program, and what of it is left over. An answer
-- is the lines of the faults, and the status.
use Rattle.std.specs.Prelude.{◌≡◌, ◌⊎◌, ℕ, List, [], ◌++◌, All, IfOk, length, map, Ok, Err}
use Rattle.std.specs.declared.option.Option.{Option}
use Rattle.std.specs.declared.result.Result.{Result}
use Rattle.std.specs.Io.KnownBytes.{Appends}
use Rattle.std.specs.List.{flat_map}
use Rattle.byte_places.specs.declared.spans.Span.{Span}
use Rattle.mz.specs.File.{MzFile}
use Rattle.omf_match.specs.Told.{left_lines}
use Rattle.doslink_files.specs.Files.{IsTold}
use Rattle.doslink_files.specs.declared.fault.ReadFault.{ReadFault}
use Rattle.doslib_match.specs.Matching.{IsMatch}
use Rattle.doslib_match.specs.declared.matching.Wanted.{Wanted}
use Rattle.doslib_match.specs.declared.matching.Wanted.TheVariants.{All as AllSegments}
use Rattle.doslib_jobs.specs.Program.{HasNoProgram, HasProgram}
use Rattle.doslib_jobs.specs.Reading.{file_status, greatest, unread_line}

-- a file whose modules are looked for: its path, its bytes, or why it isn't read, what is printed of it, the bytes of
-- the image that its modules have, and the lines of its faults
pub record Searched : Type 0 where
  pub path : List ℕ
  pub bytes : Result (List ℕ) ReadFault
  pub text : List ℕ
  pub spans : List Span
  pub faults : List ℕ

-- this is told of one that was read, or why it isn't
abbrev pub IsMatchOf : Wanted → (image path : List ℕ) → Result (List ℕ) ReadFault → (text : List ℕ) → (spans : List Span)
    → (faults : List ℕ) → Type 0
IsMatchOf wanted image path (Ok file) text spans faults = IsMatch wanted image path file text spans faults
IsMatchOf wanted image path (Err fault) text spans faults = (text ≡ []) × (spans ≡ []) × (faults ≡ unread_line path fault)

-- these are its bytes, where those of the files by their paths are told, and this is told of it
abbrev pub IsSearched : Wanted → (told : List ℕ → Option (List ℕ)) → (image : List ℕ) → Searched → Type 0
IsSearched wanted told image s =
    IfOk s.bytes (IsTold (told s.path)) × IsMatchOf wanted image s.path s.bytes s.text s.spans s.faults

abbrev pub searched_status : Searched → ℕ
searched_status s = file_status s.bytes s.faults

-- The files at these paths were searched, one for each: what is told of them was appended, and then the bytes of the
-- image that none of their modules has; these are the lines of their faults, and this is the greatest status.
pub record Searches (told : List ℕ → Option (List ℕ)) (image : List ℕ) (paths : List (List ℕ))
    (old new : Option (List ℕ)) (answer : List ℕ × ℕ) : Type 0 where
  pub files : List Searched
  pub these : map (λ s. s.path) files ≡ paths
  pub are : All (IsSearched AllSegments told image) files
  pub text : Appends old new (flat_map (λ s. s.text) files
      ++ left_lines (flat_map (λ s. s.spans) files) (length image))
  pub faults : answer.0 ≡ flat_map (λ s. s.faults) files
  pub greatest_is : answer.1 ≡ greatest (map searched_status files)

-- What the job comes to: its program was searched, or there is none.
abbrev pub Matches : (told : List ℕ → Option (List ℕ)) → (path : List ℕ) → (paths : List (List ℕ))
    → (old new : Option (List ℕ)) → List ℕ × ℕ → Type 0
Matches told path paths old new answer =
    (HasNoProgram told path answer × (new ≡ old))
    ⊎ ((program : MzFile) × HasProgram told path program × Searches told program.image paths old new answer)
