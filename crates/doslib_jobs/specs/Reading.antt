-- Files that are read, and the lines of those that aren't, and of those that aren't written.
use Rattle.std.specs.Prelude.{ℕ, ◌==◌, if◌then◌else◌, List, [], ◌∷◌, length, max, codes, Ok, Err}
use Rattle.std.specs.declared.result.Result.{Result}
use Rattle.std.specs.List.{concat}
use Rattle.doslink_files.specs.declared.fault.ReadFault.{ReadFault}
use Rattle.doslink_files.specs.declared.fault.ReadFault.TheVariants as read

-- why a file isn't read
abbrev pub unread_text : ReadFault → List ℕ
unread_text read.Memory = codes "out of memory"
unread_text read.Absent = codes "no such file"
unread_text read.Folder = codes "it is a folder"
unread_text read.Forbidden = codes "no permission"
unread_text read.NoDrive = codes "there is no such drive"
unread_text read.Special = codes "it is no regular file"
unread_text (read.Unopened kind) = codes "it can't be opened"
unread_text (read.Device kind) = codes "it can't be read"

-- the line of a file at a path that isn't read
abbrev pub unread_line : (path : List ℕ) → ReadFault → List ℕ
unread_line path fault =
    concat (codes "doslib: " ∷ path ∷ codes ": 1 Device: " ∷ unread_text fault ∷ codes "\n" ∷ [])

-- that of one that can't be written
abbrev pub unwritten_line : (path : List ℕ) → List ℕ
unwritten_line path = concat (codes "doslib: " ∷ path ∷ codes ": 40 Device\n" ∷ [])

-- the status of a file by the lines of its faults: 0 where there are none, and else 1
abbrev pub faults_status : (lines : List ℕ) → ℕ
faults_status lines = if length lines == 0 then 0 else 1

-- that of one that was read, or isn't: 0, 1 where it is at fault, and 3 where it isn't read
abbrev pub file_status : Result (List ℕ) ReadFault → (faults : List ℕ) → ℕ
file_status (Ok bytes) faults = faults_status faults
file_status (Err fault) faults = 3

-- the greatest of some numbers, and 0 of none
abbrev pub greatest : List ℕ → ℕ
greatest [] = 0
greatest (n ∷ ns) = max n (greatest ns)
