-- The lines of refusals and warnings of a whole program, and how many of a kind are told.
use Rattle.std.specs.Prelude.{ℕ, ◌%◌, ◌==◌, ◌&&◌, nat_lt, if◌then◌else◌, List, [], ◌∷◌, ◌++◌, codes, decimal, length}
use Rattle.std.specs.declared.option.Option.{Option}
use Rattle.std.specs.List.{concat}
use Rattle.std.specs.Option.{option_map_or}
use Rattle.omf_faults.specs.FaultLines.{name_at_fault, program_label}
use Rattle.omf_faults.specs.declared.fault.ProgramFault.{ProgramFault}
use Rattle.omf_text.specs.Printing.{printed_name}

-- ---- numbers

-- digits, with a comma behind each that others follow, where the number of these is a multiple of three
abbrev pub with_commas : List ℕ → List ℕ
with_commas [] = []
with_commas (digit ∷ more) =
    digit ∷ (if nat_lt 0 (length more) && length more % 3 == 0 then codes "," else []) ++ with_commas more

-- a number in decimal, its digits in groups of three from the end, with a comma between two groups
abbrev pub grouped : ℕ → List ℕ
grouped n = with_commas (decimal n)

-- ---- what is told at most

-- how many missing names, and warnings of a kind, are told, where not all of them are
abbrev pub most_told : ℕ
most_told = 20

-- how many more there are
abbrev pub more_line : ℕ → List ℕ
more_line count = concat (codes "doslink: and " ∷ grouped count ∷ codes " more\n" ∷ [])

-- ---- refusals

-- the program would have no byte
abbrev pub no_program_line : List ℕ
no_program_line = codes "doslink: link: 67 NoProgram\n"

-- data with values stands in a segment of the module that start-up code clears
abbrev pub data_in_bss_line : (segment word : List ℕ) → List ℕ
data_in_bss_line segment word =
    concat (codes "doslink: " ∷ word ∷ codes ": 62 DataInBss " ∷ printed_name segment ∷ codes "\n" ∷ [])

-- what is at fault, by its name where it has one
abbrev pub name_text : Option (List ℕ) → List ℕ
name_text name = option_map_or (λ n. codes " " ++ printed_name n) name []

-- what stands behind a number of bytes that are too many
abbrev pub over_end : ℕ → List ℕ
over_end bytes = if bytes == 1 then codes " byte over\n" else codes " bytes over\n"

-- a segment, the program or a group is so many bytes too long
abbrev pub excess_line : {A : Type 0} → ProgramFault A → (bytes : ℕ) → List ℕ
excess_line fault bytes =
    let label = program_label fault in
    concat (codes "doslink: link: " ∷ decimal label.0 ∷ codes " " ∷ label.1 ∷ name_text (name_at_fault fault)
    ∷ codes ": " ∷ grouped bytes ∷ over_end bytes ∷ [])

-- the modules ask for a longer stack than is asked for
abbrev pub long_stack_line : (bytes : ℕ) → List ℕ
long_stack_line bytes =
    concat (codes "doslink: link: 66 StackTooLong: more than " ∷ grouped bytes ∷ codes " bytes\n" ∷ [])

-- ---- warnings

abbrev pub cut_stack_line : (bytes : ℕ) → List ℕ
cut_stack_line bytes = concat (codes "doslink: warning: the stack is cut to " ∷ grouped bytes ∷ codes " bytes\n" ∷ [])

abbrev pub no_start_line : List ℕ
no_start_line = codes "doslink: warning: no module has a start\n"

abbrev pub no_stack_line : List ℕ
no_stack_line = codes "doslink: warning: no module has a stack\n"

abbrev pub no_code_line : List ℕ
no_code_line = codes "doslink: warning: no module has a byte of code\n"

-- a far communal variable that the module reaches by its offset alone
abbrev pub reached_line : (name word : List ℕ) → List ℕ
reached_line name word = concat (codes "doslink: warning: " ∷ printed_name name ∷ codes " of " ∷ word
    ∷ codes " is far and reached by its offset alone: declare it near (NASM: common NAME:near SIZE)\n" ∷ [])
