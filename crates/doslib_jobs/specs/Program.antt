-- What `program` comes to: what it prints of a program's file, and the file of the image that it writes. An answer is
-- the lines of the faults, and the status.
use Rattle.std.specs.Prelude.{◌≡◌, ◌⊎◌, ℕ, ◌-◌, true, false, List, [], ◌∷◌, length, codes, decimal, IfOk, IfSome}
use Rattle.std.specs.Prelude.{Some, None, Ok, Err}
use Rattle.std.specs.declared.option.Option.{Option}
use Rattle.std.specs.declared.result.Result.{Result}
use Rattle.std.specs.Io.KnownBytes.{Appends}
use Rattle.std.specs.List.{concat}
use Rattle.mz.specs.declared.fault.FileFault.{FileFault}
use Rattle.mz.specs.File.{MzFile}
use Rattle.mz.specs.Header.{told_len}
use Rattle.mz.specs.Labels.{file_label}
use Rattle.mz.specs.Loading.{Loaded, loading}
use Rattle.mz.specs.Reading.{reading}
use Rattle.mz_text.specs.Program.{program_lines}
use Rattle.omf_files.specs.declared.world.Looked.{Looked}
use Rattle.doslink_files.specs.Files.{IsTold}
use Rattle.doslink_files.specs.Standing.{is_one_place}
use Rattle.doslink_files.specs.declared.fault.ReadFault.{ReadFault}
use Rattle.doslib_words.specs.declared.program.Image.{Image}
use Rattle.doslib_jobs.specs.Reading.{unread_line, unwritten_line}

-- the line of a fault of the program's file at a path
abbrev pub fault_line : (path : List ℕ) → FileFault → List ℕ
fault_line path fault =
    concat (codes "doslib: " ∷ path ∷ codes ": " ∷ decimal (file_label fault).0 ∷ codes " " ∷ (file_label fault).1
    ∷ codes "\n" ∷ [])

-- the answer where the program's file is at fault
abbrev pub IsAtFault : (path : List ℕ) → FileFault → List ℕ × ℕ → Type 0
IsAtFault path fault answer = (answer.0 ≡ fault_line path fault) × (answer.1 ≡ 1)

-- the file at a path holds this program: it has these bytes, where those of files by their paths are told
abbrev pub HasProgram : (told : List ℕ → Option (List ℕ)) → (path : List ℕ) → MzFile → Type 0
HasProgram told path program = (bytes : List ℕ) × IsTold (told path) bytes × (reading bytes ≡ Ok program)

-- it holds none, or isn't read, and that is the answer
abbrev pub HasNoProgram : (told : List ℕ → Option (List ℕ)) → (path : List ℕ) → (answer : List ℕ × ℕ) → Type 0
HasNoProgram told path answer =
    ((bytes : List ℕ) × (fault : FileFault) × IsTold (told path) bytes × (reading bytes ≡ Err fault)
    × IsAtFault path fault answer)
    ⊎ ((fault : ReadFault) × (answer.0 ≡ unread_line path fault) × (answer.1 ≡ 3))

-- A file of these bytes stands at a path; or it can't be written, which a line tells. `Stands` is what the world
-- promises of a file that was put at a path.
abbrev pub IsWritten : (Stands : (path bytes : List ℕ) → Type 0) → (out bytes : List ℕ) → List ℕ × ℕ → Type 0
IsWritten Stands out bytes answer =
    (Stands out bytes × (answer.0 ≡ []) × (answer.1 ≡ 0)) ⊎ ((answer.0 ≡ unwritten_line out) × (answer.1 ≡ 3))

-- the image of a program that was loaded is written, byte for byte as it stands in memory; or the program doesn't fit
-- there, which is a fault of its file
abbrev pub WritesImage : (Stands : (path bytes : List ℕ) → Type 0) → (path out : List ℕ) → Result Loaded FileFault
    → List ℕ × ℕ → Type 0
WritesImage Stands path out (Ok loaded) answer = IsWritten Stands out loaded.bytes answer
WritesImage Stands path out (Err fault) answer = IsAtFault path fault answer

-- the same of the image at its paragraph, where one is asked for
abbrev pub WritesAsked : (Stands : (path bytes : List ℕ) → Type 0) → (path : List ℕ) → Option Image → MzFile
    → List ℕ × ℕ → Type 0
WritesAsked Stands path None program answer = (answer.0 ≡ []) × (answer.1 ≡ 0)
WritesAsked Stands path (Some image) program answer =
    WritesImage Stands path image.out.now (loading image.paragraph program) answer

-- what is told of a program was appended
abbrev pub Prints : (path : List ℕ) → MzFile → (behind : ℕ) → (old new : Option (List ℕ)) → Type 0
Prints path program behind old new = Appends old new (program_lines path program behind)

-- what becomes of a file with these bytes, which holds this program or has this fault
abbrev pub TellsFile : (Stands : (path bytes : List ℕ) → Type 0) → (path : List ℕ) → Option Image → (bytes : List ℕ)
    → Result MzFile FileFault → (old new : Option (List ℕ)) → List ℕ × ℕ → Type 0
TellsFile Stands path image bytes (Ok program) old new answer =
    Prints path program (length bytes - told_len program.header) old new
    × WritesAsked Stands path image program answer
TellsFile Stands path image bytes (Err fault) old new answer = (new ≡ old) × IsAtFault path fault answer

-- the same of one that was read, or why it isn't
abbrev pub TellsRead : (Stands : (path bytes : List ℕ) → Type 0) → (path : List ℕ) → Option Image
    → Result (List ℕ) ReadFault → (old new : Option (List ℕ)) → List ℕ × ℕ → Type 0
TellsRead Stands path image (Ok bytes) old new answer = TellsFile Stands path image bytes (reading bytes) old new answer
TellsRead Stands path image (Err fault) old new answer =
    (new ≡ old) × (answer.0 ≡ unread_line path fault) × (answer.1 ≡ 3)

-- what becomes of the file at a path: it has these bytes, where those of files by their paths are told, or isn't read
abbrev pub TellsPath : (told : List ℕ → Option (List ℕ)) → (Stands : (path bytes : List ℕ) → Type 0)
    → (path : List ℕ) → Option Image → (old new : Option (List ℕ)) → List ℕ × ℕ → Type 0
TellsPath told Stands path image old new answer =
    (bytes : Result (List ℕ) ReadFault) × IfOk bytes (IsTold (told path))
    × TellsRead Stands path image bytes old new answer

-- ---- an image that would be written over the file that is read

-- the line that says so
abbrev pub over_line : (out : List ℕ) → List ℕ
over_line out = concat (codes "doslib: " ∷ out ∷ codes ": it is read and would be written\n" ∷ [])

-- it is told, and nothing else is done
abbrev pub IsOver : (out : List ℕ) → (old new : Option (List ℕ)) → List ℕ × ℕ → Type 0
IsOver out old new answer = (new ≡ old) × (answer.0 ≡ over_line out) × (answer.1 ≡ 2)

-- What the job comes to. Where it is told what stands at each path, none where nothing does, an image is refused
-- exactly where its path leads to the place of the file.
abbrev pub TellsProgram : (told : List ℕ → Option (List ℕ)) → (looks : Option (List ℕ → Option Looked))
    → (Stands : (path bytes : List ℕ) → Type 0) → (path : List ℕ) → Option Image → (old new : Option (List ℕ))
    → List ℕ × ℕ → Type 0
TellsProgram told looks Stands path None old new answer = TellsPath told Stands path None old new answer
TellsProgram told looks Stands path (Some image) old new answer =
    (IfSome looks (λ look. is_one_place look path image.out.now ≡ true) × IsOver image.out.now old new answer)
    ⊎ (IfSome looks (λ look. is_one_place look path image.out.now ≡ false)
    × TellsPath told Stands path (Some image) old new answer)
