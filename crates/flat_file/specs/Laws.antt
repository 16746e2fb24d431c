-- What a file of each form is, of the program that linked modules stand for.
use Rattle.std.specs.Prelude.{◌≡◌, ℕ, ◌+◌, ◌-◌, ◌*◌, ◌%◌, ◌<◌, ◌≤◌, List, length, slice_get, Some, None, Ok}
use Rattle.std.specs.Prelude.{IsTrue, true, false}
use Rattle.omf_module.specs.Module.{Module}
use Rattle.omf_place.specs.Layout.{Layout}
use Rattle.omf_image.specs.Building.{IsProgramOf}
use Rattle.omf_image.specs.Program.{Program, IsProgram}
use Rattle.omf_image.specs.Records.{program_byte, written}
use Rattle.omf_image.specs.Registers.{registers}
use Rattle.flat_file.specs.Covered.{is_covered, first_covered, memory_len}
use Rattle.flat_file.specs.Forms.{bin_bytes, com_bytes, com_fault, from_start_bytes, from_start_fault, raw_fault}
use Rattle.flat_file.specs.Forms.{starts_at_0, sys_bytes, sys_fault}
use Rattle.flat_file.specs.Com.{LoadedCom, loading}

-- what data covers begins at the first address that it covers, and lies in the written part
abbrev pub CoversWritten : Type 0
CoversWritten =
    (layout : Layout) (modules : List Module) (program : Program) → IsProgramOf layout modules program
    → (address : ℕ) → IsTrue (is_covered layout modules address)
    → (first_covered layout modules ≤ address) × (address < program.written)

-- These bytes are, from an address on to the end of the written part, those of the located program at a paragraph, and
-- no more.
pub record IsLocatedFrom (paragraph from : ℕ) (layout : Layout) (modules : List Module) (file : List ℕ) : Type 0 where
  pub size : length file ≡ written layout modules - from
  pub bytes : (address : ℕ) → from ≤ address → address < written layout modules
      → slice_get file (address - from) ≡ Some (program_byte paragraph layout modules address)

-- a .BIN file, byte for byte, is the located program at its paragraph
abbrev pub BinIsLocated : Type 0
BinIsLocated =
    (layout : Layout) (modules : List Module) (program : Program) → IsProgramOf layout modules program
    → IsProgram program → (paragraph from : ℕ)
    → IsLocatedFrom paragraph from layout modules (bin_bytes paragraph from program)

-- data covers no address below one, so a file from there on has all that it covers
abbrev pub IsWholeFrom : (from : ℕ) → Layout → List Module → Type 0
IsWholeFrom from layout modules = (address : ℕ) → IsTrue (is_covered layout modules address) → from ≤ address

-- so it is of a raw image that nothing keeps from being one
abbrev pub RawIsWhole : Type 0
RawIsWhole =
    (layout : Layout) (modules : List Module) (program : Program) → IsProgramOf layout modules program
    → IsProgram program → (from : ℕ) → raw_fault from layout modules ≡ None → IsWholeFrom from layout modules

-- a driver's file is the located program at each paragraph
abbrev pub SysIsLocated : Type 0
SysIsLocated =
    (layout : Layout) (modules : List Module) (program : Program) → IsProgramOf layout modules program
    → IsProgram program → sys_fault program ≡ None → (paragraph : ℕ)
    → IsLocatedFrom paragraph 0 layout modules (sys_bytes program)

-- What a .COM program is in memory: data covers no address below 100H, at each address of the written part from there
-- on, but for those of the word that is pushed at the segment's end, stands the byte of the located program at the
-- paragraph of the PSP, and CS, IP and SS are the program's there.
pub record IsLocatedCom (psp : ℕ) (layout : Layout) (modules : List Module) (memory : LoadedCom) : Type 0 where
  pub above : (address : ℕ) → IsTrue (is_covered layout modules address) → 256 ≤ address
  pub bytes : (address : ℕ) → 256 ≤ address → address < written layout modules → address < 65534
      → slice_get memory.bytes (address - 256) ≡ Some (program_byte psp layout modules address)
  pub cs : memory.registers.cs ≡ (registers psp layout modules).cs
  pub ip : memory.registers.ip ≡ (registers psp layout modules).ip
  pub ss : memory.registers.ss ≡ (registers psp layout modules).ss

-- so is the file of a program in which no fault stands, wherever its segment fits
abbrev pub ComLoadsAsWritten : Type 0
ComLoadsAsWritten =
    (layout : Layout) (modules : List Module) (program : Program) → IsProgramOf layout modules program
    → IsProgram program → com_fault layout modules program ≡ None → (psp : ℕ) → 16 * psp + 65536 ≤ memory_len
    → (memory : LoadedCom) × (loading psp (com_bytes program) ≡ Ok memory) × IsLocatedCom psp layout modules memory

-- These bytes are one segment, those of the located program at a paragraph, and it starts at the first of them.
pub record IsLocatedSegment (paragraph : ℕ) (layout : Layout) (modules : List Module) (file : List ℕ) : Type 0 where
  pub located : IsLocatedFrom paragraph 0 layout modules file
  pub short : length file ≤ 65536
  pub cs : (registers paragraph layout modules).cs ≡ paragraph % 65536
  pub ip : (registers paragraph layout modules).ip ≡ 0

-- a file that begins at its program's start is that at each paragraph, where the start is at 0
abbrev pub FromStartIsLocated : Type 0
FromStartIsLocated =
    (layout : Layout) (modules : List Module) (program : Program) → IsProgramOf layout modules program
    → IsProgram program → from_start_fault layout modules program ≡ None → starts_at_0 program ≡ true
    → (paragraph : ℕ) → IsLocatedSegment paragraph layout modules (from_start_bytes program)

-- and else it is what a .COM file is, wherever its segment fits
abbrev pub FromStartLoadsAsWritten : Type 0
FromStartLoadsAsWritten =
    (layout : Layout) (modules : List Module) (program : Program) → IsProgramOf layout modules program
    → IsProgram program → from_start_fault layout modules program ≡ None → starts_at_0 program ≡ false
    → (psp : ℕ) → 16 * psp + 65536 ≤ memory_len
    → (memory : LoadedCom) × (loading psp (from_start_bytes program) ≡ Ok memory)
    × IsLocatedCom psp layout modules memory
