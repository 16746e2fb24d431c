-- The memory after a file was loaded at a paragraph P, and the registers, as Microsoft published the EXE file.
use Rattle.std.specs.Prelude.{◌≡◌, ℕ, ◌+◌, ◌*◌, ◌/◌, max, nat_le, if◌then◌else◌, List, map, length, Ok, Err}
use Rattle.std.specs.declared.result.Result.{Result}
use Rattle.omf_image.specs.Words.{add_words}
use Rattle.omf_image.specs.declared.start.Registers.{Registers}
use Rattle.omf_image.specs.Registers.{moved}
use Rattle.mz.specs.declared.fault.FileFault.{FileFault}
use Rattle.mz.specs.declared.fault.FileFault.TheVariants.{DoesNotFit}
use Rattle.mz.specs.declared.fault.MzFault.{MzFault}
use Rattle.mz.specs.declared.fault.MzFault.TheVariants.{File, Memory}
use Rattle.mz.specs.Header.{entry_address}
use Rattle.mz.specs.File.{MzFile}

-- the bytes of the image, the first of which stands at address 16 P, and the registers at the start
pub record Loaded : Type 0 where
  pub bytes : List ℕ
  pub registers : Registers

-- P is added to the word of each entry, in the order of the table, and to CS and SS, modulo 65,536.
-- An entry's word stands at address 16 * (P + segment) + offset, and its place in the image is 16 P below that.
unfoldable pub loaded : (paragraph : ℕ) → MzFile → Loaded
loaded paragraph file = record {
  bytes = add_words paragraph (map entry_address file.entries) file.image;
  registers = moved paragraph file.header.registers;
}

-- how many bytes the program needs from the first of its image on: the image, and the extra paragraphs that the header
-- asks for at least, counted from the end of the image's whole paragraphs
abbrev pub needed_len : MzFile → ℕ
needed_len file = max (length file.image) (16 * (length file.image / 16 + file.header.least_extra_paragraphs))

-- what loading a file at paragraph P answers: it has to end where the memory does that a real-mode address reaches
unfoldable pub loading : (paragraph : ℕ) → MzFile → Result Loaded FileFault
loading paragraph file =
    if nat_le (16 * paragraph + needed_len file) 1048576 then Ok (loaded paragraph file) else Err DoesNotFit

-- the answer is that one, unless there was no memory for a program that fits
abbrev pub Loads : Result Loaded MzFault → Result Loaded FileFault → Type 0
Loads (Ok answer) expected = expected ≡ Ok answer
Loads (Err (File DoesNotFit)) expected = expected ≡ Err DoesNotFit
Loads (Err (File _)) expected = ⊥
Loads (Err Memory) (Ok answer) = Unit {0}
Loads (Err Memory) (Err fault) = ⊥
