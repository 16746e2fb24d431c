-- What loading a program's file at a paragraph answers, and what it writes.
use Rattle.std.specs.Prelude.{◌≡◌, ℕ, ◌+◌, ◌*◌, ◌/◌, List, [], ◌∷◌, ◌++◌, ◌⊎◌, length, take, drop, codes, Ok, Err}
use Rattle.std.specs.Prelude.{IfSome}
use Rattle.std.specs.declared.option.Option.{Option}
use Rattle.std.specs.declared.result.Result.{Result}
use Rattle.std.specs.List.{concat, flat_map, range_with_len}
use Rattle.std.specs.Io.KnownBytes.{Appends, Keeps}
use Rattle.omf_frame.specs.Device.{AppendsFront}
use Rattle.mz.specs.declared.fault.FileFault.{FileFault}
use Rattle.mz.specs.declared.fault.FileFault.TheVariants.{DoesNotFit}
use Rattle.mz.specs.declared.fault.MzFault.{MzFault}
use Rattle.mz.specs.declared.fault.MzFault.TheVariants as mz_fault
use Rattle.mz.specs.File.{MzFile}
use Rattle.mz.specs.Reading.{reading, Gives, Takes}
use Rattle.mz.specs.Loading.{Loaded, loading}
use Rattle.omf_faults.specs.declared.fault.LinkFault.{LinkFault}
use Rattle.omf_faults.specs.declared.fault.LinkFault.TheVariants as link
use Rattle.omf_text.specs.Printing.{hexadecimal}

-- the registers at the start
unfoldable pub registers_line : Loaded → List ℕ
registers_line loaded =
    concat (codes "CS:IP " ∷ hexadecimal 4 loaded.registers.cs ∷ codes ":" ∷ hexadecimal 4 loaded.registers.ip
    ∷ codes " SS:SP " ∷ hexadecimal 4 loaded.registers.ss ∷ codes ":" ∷ hexadecimal 4 loaded.registers.sp
    ∷ codes "\n" ∷ [])

-- bytes, two digits each, behind the address of the first
unfoldable pub bytes_line : (address : ℕ) → List ℕ → List ℕ
bytes_line address bytes = hexadecimal 5 address ++ (codes " " ++ (flat_map (hexadecimal 2) bytes ++ codes "\n"))

-- the line of the sixteen bytes with this number, or of what is left there
abbrev pub bytes_line_at : (address : ℕ) → List ℕ → (number : ℕ) → List ℕ
bytes_line_at address bytes number = bytes_line (address + 16 * number) (take 16 (drop (16 * number) bytes))

-- bytes that stand from an address on, sixteen in a line
abbrev pub bytes_lines : (address : ℕ) → List ℕ → List ℕ
bytes_lines address bytes = flat_map (bytes_line_at address bytes) (range_with_len 0 ((length bytes + 15) / 16))

-- the listing of a program that is loaded at a paragraph
abbrev pub listing : (paragraph : ℕ) → Loaded → List ℕ
listing paragraph loaded = registers_line loaded ++ bytes_lines (16 * paragraph) loaded.bytes

-- the bytes are this file, which was taken
abbrev pub IsFile : (old new : Option (List ℕ)) → MzFile → Type 0
IsFile old new mz = IfSome old (λ bytes. reading bytes ≡ Ok mz) × Takes old new (Ok mz)

-- reading the bytes as a file has this fault
abbrev pub IsNoFile : (old new : Option (List ℕ)) → MzFault → Type 0
IsNoFile old new fault = IfSome old (λ bytes. Gives (Err fault) (reading bytes)) × Takes old new (Err fault)

-- the file is loaded so
abbrev pub IsLoaded : (paragraph : ℕ) (old new : Option (List ℕ)) → Loaded → Type 0
IsLoaded paragraph old new loaded = (mz : MzFile) × IsFile old new mz × (loading paragraph mz ≡ Ok loaded)

-- why a file isn't loaded
abbrev pub IsFileFault : (paragraph : ℕ) (old new : Option (List ℕ)) → FileFault → Type 0
IsFileFault paragraph old new DoesNotFit =
    (mz : MzFile) × IsFile old new mz × (loading paragraph mz ≡ Err DoesNotFit)
IsFileFault paragraph old new fault = IsNoFile old new (mz_fault.File fault)

-- Loading the file that a source gives at a paragraph: what is told of the source and of the sink before and after, and
-- the answer. Nothing is written after a refusal but the sink's own.
abbrev pub LoadsFile : {A : Type 0} → (paragraph : ℕ) (old new wold wnew : Option (List ℕ))
    → Result (Unit {0}) (LinkFault A) → Type 0
LoadsFile paragraph old new wold wnew (Ok done) =
    (loaded : Loaded) × IsLoaded paragraph old new loaded × Appends wold wnew (listing paragraph loaded)
LoadsFile paragraph old new wold wnew (Err link.Output) =
    (loaded : Loaded) × IsLoaded paragraph old new loaded × AppendsFront wold wnew (listing paragraph loaded)
LoadsFile paragraph old new wold wnew (Err link.Memory) =
    (IsNoFile old new mz_fault.Memory ⊎ ((loaded : Loaded) × IsLoaded paragraph old new loaded)) × Keeps wold wnew
LoadsFile paragraph old new wold wnew (Err (link.File fault)) = IsFileFault paragraph old new fault × Keeps wold wnew
LoadsFile paragraph old new wold wnew (Err (link.Device input place)) = ⊥
LoadsFile paragraph old new wold wnew (Err (link.Record input place fault)) = ⊥
LoadsFile paragraph old new wold wnew (Err (link.Program fault)) = ⊥
