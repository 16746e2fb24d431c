-- What MS-DOS makes of a .COM file (Microsoft's MS-DOS Programmer's Reference, "Loading .COM Programs"): the program
-- segment prefix, PSP, takes the first 256 bytes of the program's segment, and the file's bytes stand behind it, as
-- they are. CS, DS, ES and SS have the paragraph of the PSP, IP is 100H, and where the segment has all of its 65,536
-- bytes a word 0000 is pushed at its end: SP is FFFEH.
use Rattle.std.specs.Prelude.{◌≡◌, ℕ, ◌+◌, ◌*◌, nat_le, if◌then◌else◌, List, take, length, Ok, Err}
use Rattle.std.specs.declared.result.Result.{Result}
use Rattle.omf_image.specs.declared.start.Registers.{Registers}
use Rattle.flat_file.specs.declared.loading.ComFault.{ComFault}
use Rattle.flat_file.specs.declared.loading.ComFault.TheVariants.{TooLong, DoesNotFit, Memory}
use Rattle.flat_file.specs.Covered.{memory_len}

-- the bytes from offset 100H of the program's segment on that are the file's, and the registers; DS and ES are CS
pub record LoadedCom : Type 0 where
  pub bytes : List ℕ
  pub registers : Registers

-- the word that is pushed stands over the last two of 65,280 bytes
abbrev pub loaded : (psp : ℕ) → (file : List ℕ) → LoadedCom
loaded psp file =
    record { bytes = take 65278 file; registers = record { cs = psp; ip = 256; ss = psp; sp = 65534 } }

-- a file has to fit behind the PSP, and the segment into the memory that a real-mode address reaches
unfoldable pub loading : (psp : ℕ) → (file : List ℕ) → Result LoadedCom ComFault
loading psp file =
    if nat_le (length file) 65280 then (
    if nat_le (16 * psp + 65536) memory_len then Ok (loaded psp file) else Err DoesNotFit
    ) else Err TooLong

-- the answer is that one, unless there was no memory for a program that is loaded
abbrev pub Loads : Result LoadedCom ComFault → Result LoadedCom ComFault → Type 0
Loads (Ok answer) expected = expected ≡ Ok answer
Loads (Err TooLong) expected = expected ≡ Err TooLong
Loads (Err DoesNotFit) expected = expected ≡ Err DoesNotFit
Loads (Err Memory) (Ok answer) = Unit {0}
Loads (Err Memory) (Err fault) = ⊥
