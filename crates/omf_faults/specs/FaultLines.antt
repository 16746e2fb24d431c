-- How a fault is printed, and the exit status that it gives. A label is the number and the name of a fault.
use Rattle.std.specs.Prelude.{ℕ, ◌==◌, ◌||◌, if◌then◌else◌, List, [], ◌∷◌, ◌++◌, codes, decimal, Some, None}
use Rattle.std.specs.declared.option.Option.{Option}
use Rattle.std.specs.List.{concat}
use Rattle.std.specs.Option.{option_map}
use Rattle.std.specs.Borrow.{Bor}
use Rattle.omf_record.specs.Labels.{no_record_label}
use Rattle.omf_record.specs.declared.fault.NoRecord.TheVariants as absent
use Rattle.omf_module.specs.Labels.{check_label}
use Rattle.omf_image.specs.Labels.{fix_label}
use Rattle.mz.specs.Labels.{file_label}
use Rattle.omf_text.specs.Printing.{printed_name}
use Rattle.omf_faults.specs.declared.fault.InputFault.{InputFault}
use Rattle.omf_faults.specs.declared.fault.InputFault.TheVariants as fault
use Rattle.omf_faults.specs.declared.fault.ProgramFault.{ProgramFault}
use Rattle.omf_faults.specs.declared.fault.ProgramFault.TheVariants as program
use Rattle.omf_faults.specs.declared.fault.LinkFault.{LinkFault}
use Rattle.omf_faults.specs.declared.fault.LinkFault.TheVariants as link

-- the number and the name of a record's fault
abbrev pub label : InputFault → ℕ × List ℕ
label (fault.Absent why) = no_record_label why
label (fault.Check found) = check_label found
label (fault.Fix kind) = fix_label kind

-- where in the body the fault is, where the body is at fault
abbrev pub place_in_body : InputFault → Option ℕ
place_in_body (fault.Absent (absent.Body at)) = Some at
place_in_body _ = None

-- the number and the name of a fault of the modules together
abbrev pub program_label : {A : Type 0} → ProgramFault A → ℕ × List ℕ
program_label (program.SegmentTooLong name) = (22, codes "SegmentTooLong")
program_label program.ProgramTooLarge = (23, codes "ProgramTooLarge")
program_label (program.GroupTooLong name) = (24, codes "GroupTooLong")
program_label (program.DuplicatePublic name) = (25, codes "DuplicatePublic")
program_label program.TooManyRelocations = (34, codes "TooManyRelocations")

-- the segment, group or public at fault
abbrev pub name_at_fault : {A : Type 0} → ProgramFault A → Option (List ℕ)
name_at_fault (program.SegmentTooLong name) = Some name.items
name_at_fault program.ProgramTooLarge = None
name_at_fault (program.GroupTooLong name) = Some name.items
name_at_fault (program.DuplicatePublic name) = Some name.items
name_at_fault program.TooManyRelocations = None

-- a fault's number; want of memory has none
abbrev pub number : {A : Type 0} → LinkFault A → Option ℕ
number link.Memory = None
number link.Output = Some 40
number (link.Device input place) = Some 1
number (link.Record input place fault') = Some (label fault').0
number (link.Program fault') = Some (program_label fault').0
number (link.File fault') = Some (file_label fault').0

-- a fault's name
abbrev pub name : {A : Type 0} → LinkFault A → List ℕ
name link.Memory = codes "memory"
name link.Output = codes "Device"
name (link.Device input place) = codes "Device"
name (link.Record input place fault') = (label fault').1
name (link.Program fault') = (program_label fault').1
name (link.File fault') = (file_label fault').1

-- the input at fault; the file that is loaded is the only one
abbrev pub input : {A : Type 0} → LinkFault A → Option ℕ
input link.Memory = None
input link.Output = None
input (link.Device input' place) = Some input'
input (link.Record input' place fault') = Some input'
input (link.Program fault') = None
input (link.File fault') = Some 0

-- 3 for want of memory and where a device failed, faults 1 and 40, and 1 for any other fault
abbrev pub status_of : Option ℕ → ℕ
status_of None = 3
status_of (Some number') = if number' == 1 || number' == 40 then 3 else 1

-- the exit status of a command that stopped for this fault
abbrev pub status : {A : Type 0} → LinkFault A → ℕ
status fault = status_of (number fault)

-- the place in the body, where the body is at fault, and the line end
unfoldable pub line_end : Option ℕ → List ℕ
line_end None = codes "\n"
line_end (Some at) = concat (codes " byte " ∷ decimal at ∷ codes "\n" ∷ [])

-- the line of a fault behind the program's name, up to the fault's name; `word` stands before its number
unfoldable pub line_start : (word : List ℕ) (label : ℕ × List ℕ) → List ℕ
line_start word label = concat (word ∷ codes ": " ∷ decimal label.0 ∷ codes " " ∷ label.1 ∷ [])

-- the line of a fault of a record behind the program's name, up to its place; `file` is its input
unfoldable pub line_front : (file : List ℕ) (number : ℕ) (name : List ℕ) (place : ℕ) → List ℕ
line_front file number name place =
    concat (file ∷ codes ": " ∷ decimal number ∷ codes " " ∷ name ∷ codes " at record " ∷ decimal place ∷ [])

-- the line of a fault of a record behind the program's name
abbrev pub record_text : (file : List ℕ) (label : ℕ × List ℕ) (place : ℕ) (place_in_body : Option ℕ) → List ℕ
record_text file label place place_in_body = line_front file label.0 label.1 place ++ line_end place_in_body

-- the text of a reference, where there is one
abbrev pub text_of : Option (Bor (List ℕ)) → Option (List ℕ)
text_of name = option_map (λ s. s.now) name

-- what follows the name of a fault of the modules together: the printed name of the segment, group or public
abbrev pub name_end : Option (List ℕ) → List ℕ
name_end None = codes "\n"
name_end (Some name) = codes " " ++ (printed_name name ++ codes "\n")

-- the line of a fault of the modules together behind the program's name
abbrev pub program_text : (label : ℕ × List ℕ) (name : Option (List ℕ)) → List ℕ
program_text label name = line_start (codes "link") label ++ name_end name

-- the line of a fault of a program's file behind the program's name
abbrev pub file_text : (file : List ℕ) (label : ℕ × List ℕ) → List ℕ
file_text file label = line_start file label ++ codes "\n"

-- the line of an output that failed behind the program's name
abbrev pub output_text : (file : List ℕ) → List ℕ
output_text file = file ++ codes ": 40 Device\n"

-- the line of a fault behind the program's name; `file` is the word before the number
abbrev pub fault_text : {A : Type 0} → LinkFault A → (file : List ℕ) → List ℕ
fault_text link.Memory file = codes "memory\n"
fault_text link.Output file = output_text file
fault_text (link.Device input place) file = record_text file (1, codes "Device") place None
fault_text (link.Record input place fault') file = record_text file (label fault') place (place_in_body fault')
fault_text (link.Program fault') file = program_text (program_label fault') (name_at_fault fault')
fault_text (link.File fault') file = file_text file (file_label fault')

-- a text behind the name of the program that tells it
abbrev pub told_by : (program text : List ℕ) → List ℕ
told_by program text = program ++ (codes ": " ++ text)

-- the line of a fault, as the program of this name tells it
abbrev pub fault_line : {A : Type 0} → (program : List ℕ) → LinkFault A → (file : List ℕ) → List ℕ
fault_line program fault file = told_by program (fault_text fault file)
