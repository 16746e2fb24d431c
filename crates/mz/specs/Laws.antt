-- What is written, read and loaded again is the program, moved.
use Rattle.std.specs.Prelude.{◌≡◌, ℕ, ◌+◌, ◌*◌, ◌<◌, ◌≤◌, List, map, take, length, ◌++◌, Ok, Err}
use Rattle.omf_image.specs.Program.{Program, IsProgram}
use Rattle.omf_image.specs.Registers.{moved as registers_moved}
use Rattle.omf_image.specs.Words.{add_words}
use Rattle.mz.specs.Header.{told_len, header_at}
use Rattle.mz.specs.declared.fault.FileFault.TheVariants.{DoesNotFit}
use Rattle.mz.specs.File.{MzFile, Mz, file_image, header_of, entry_of}
use Rattle.mz.specs.Loading.{Loaded, loaded, loading}
use Rattle.mz.specs.Reading.{file_of, reading}

-- the end of the memory that a real-mode address reaches
abbrev pub memory_len : ℕ
memory_len = 1048576

-- the program fits into memory at paragraph P
abbrev pub Fits : (paragraph : ℕ) → Program → Type 0
Fits paragraph program = 16 * paragraph + length program.image ≤ memory_len

-- the written part of the program at paragraph P: P added to its relocated words, and to CS and SS
abbrev pub moved : (paragraph : ℕ) → Program → Loaded
moved paragraph program = record {
  bytes = take program.written (add_words paragraph program.relocations program.image);
  registers = registers_moved paragraph program.registers;
}

-- the program as a file holds it
abbrev pub as_file : Program → MzFile
as_file program =
    record { header = header_of program; entries = map entry_of program.relocations; image = file_image program }

-- whatever follows the file of a program, it is read as that program
abbrev pub ReadsAsWritten : Type 0
ReadsAsWritten =
    (program : Program) (bytes rest : List ℕ) → Mz program bytes → reading (bytes ++ rest) ≡ Ok (as_file program)

-- the header of the file of a program tells its length
abbrev pub TellsItsLength : Type 0
TellsItsLength =
    (program : Program) (bytes rest : List ℕ) → Mz program bytes → told_len (header_at (bytes ++ rest)) ≡ length bytes

-- the memory and the registers after the bytes of a file were loaded at paragraph P
abbrev pub memory : (paragraph : ℕ) → List ℕ → Loaded
memory paragraph bytes = loaded paragraph (file_of bytes)

-- the file of a program, at any paragraph, is the program at that paragraph
abbrev pub HoldsTheProgram : Type 0
HoldsTheProgram =
    (program : Program) (bytes rest : List ℕ) → Mz program bytes → (paragraph : ℕ)
    → memory paragraph (bytes ++ rest) ≡ moved paragraph program

-- where the program fits, loading what was read of it gives that
abbrev pub LoadsAsWritten : Type 0
LoadsAsWritten =
    (program : Program) → IsProgram program → (paragraph : ℕ) → Fits paragraph program
    → loading paragraph (as_file program) ≡ Ok (moved paragraph program)

-- and it is refused at every paragraph where the program, its unwritten end included, doesn't fit
abbrev pub RefusesAboveMemory : Type 0
RefusesAboveMemory =
    (program : Program) → IsProgram program → (paragraph : ℕ) → memory_len < 16 * paragraph + length program.image
    → loading paragraph (as_file program) ≡ Err DoesNotFit
