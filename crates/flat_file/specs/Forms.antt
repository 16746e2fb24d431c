-- The forms of a program's file beside the EXE file: bytes of the program and no header. What stands at an address of
-- the program depends on the paragraph that it is loaded at, where its words are relocated.
use Rattle.std.specs.Prelude.{ℕ, Bool, ◌==◌, ◌&&◌, not, nat_lt, min, is_some, List, [], ◌∷◌, take, drop, length, Option}
use Rattle.std.specs.Prelude.{if◌then◌else◌}
use Rattle.std.specs.Bool.{then_some}
use Rattle.omf_module.specs.Before.{first}
use Rattle.omf_module.specs.Module.{Module}
use Rattle.omf_place.specs.Layout.{Layout}
use Rattle.omf_image.specs.Program.{Program}
use Rattle.omf_image.specs.Registers.{stack}
use Rattle.omf_image.specs.Words.{add_words}
use Rattle.flat_file.specs.declared.fault.FormFault.{FormFault}
use Rattle.flat_file.specs.declared.fault.FormFault.TheVariants.{Relocated, StackSegment, OtherStart, DataBelow, TooLong}
use Rattle.flat_file.specs.Covered.{first_covered, memory_len}

-- .BIN: the program at a paragraph, from an address on to the end of its written part
abbrev pub bin_bytes : (paragraph from : ℕ) → Program → List ℕ
bin_bytes paragraph from program =
    drop from (take program.written (add_words paragraph program.relocations program.image))

-- .COM: the written part of the program from 100H on
abbrev pub com_bytes : Program → List ℕ
com_bytes program = drop 256 (take program.written program.image)

-- .SYS, a device driver: the written part of the program
abbrev pub sys_bytes : Program → List ℕ
sys_bytes program = take program.written program.image

-- the program starts at the first byte of its first frame
abbrev pub starts_at_0 : Program → Bool
starts_at_0 program = program.registers.cs == 0 && program.registers.ip == 0

-- the written part from the program's start on, which is at 0, or else at 100H as that of a .COM file
abbrev pub from_start_bytes : Program → List ℕ
from_start_bytes program = if starts_at_0 program then sys_bytes program else com_bytes program

-- a word that is relocated, which only the loader of EXE files does
abbrev pub has_relocations : Program → Bool
has_relocations program = nat_lt 0 (length program.relocations)

-- what keeps a program from being a .COM file, the first by its number: a relocated word; a stack segment, for the
-- loader sets SS and SP; a start that isn't at 100H of the program's first frame; data below 100H, where the PSP
-- stands; and a program that ends behind its first 65,536 bytes, so has more than 65,280 from 100H on
unfoldable pub com_fault : Layout → List Module → Program → Option FormFault
com_fault layout modules program =
    first (then_some (has_relocations program) Relocated
    ∷ then_some (is_some (stack layout modules)) StackSegment
    ∷ then_some (not (program.registers.cs == 0 && program.registers.ip == 256)) OtherStart
    ∷ then_some (nat_lt (first_covered layout modules) 256) DataBelow
    ∷ then_some (nat_lt 65536 (length program.image)) TooLong ∷ [])

-- what keeps a program that starts at 0 from being one segment, the first by its number: a relocated word; a stack
-- segment; and more than 65,536 bytes
unfoldable pub one_segment_fault : Layout → List Module → Program → Option FormFault
one_segment_fault layout modules program =
    first (then_some (has_relocations program) Relocated
    ∷ then_some (is_some (stack layout modules)) StackSegment
    ∷ then_some (nat_lt 65536 (length program.image)) TooLong ∷ [])

-- what keeps a program from being a file that begins at its start: at another one than 0, what keeps it from being a
-- .COM file
abbrev pub from_start_fault : Layout → List Module → Program → Option FormFault
from_start_fault layout modules program =
    if starts_at_0 program then one_segment_fault layout modules program else com_fault layout modules program

-- what keeps the program of modules from being a raw image from an address on: data below that, which the file would
-- lack
abbrev pub raw_fault : (from : ℕ) → Layout → List Module → Option FormFault
raw_fault from layout modules = then_some (nat_lt (first_covered layout modules) (min from memory_len)) DataBelow

-- what keeps it from being a driver: a relocated word
abbrev pub sys_fault : Program → Option FormFault
sys_fault program = then_some (has_relocations program) Relocated
