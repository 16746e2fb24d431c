-- What reading a file answers, and where the source then stands.
use Rattle.std.specs.Prelude.{◌≡◌, ℕ, zero, suc, ◌+◌, ◌≤◌, ◌==◌, not, ◌&&◌, ◌||◌, nat_le, nat_lt}
use Rattle.std.specs.Prelude.{if◌then◌else◌, List, [], ◌∷◌, length, take, drop, Ok, Err, IfSome}
use Rattle.std.specs.List.{list_all}
use Rattle.std.specs.declared.option.Option.{Option}
use Rattle.std.specs.declared.result.Result.{Result}
use Rattle.std.specs.Io.KnownBytes.{Consumes}
use Rattle.omf_frame.specs.Device.{TakesAtMost}
use Rattle.omf_image.specs.Words.{word_at}
use Rattle.mz.specs.declared.format.Entry.{Entry}
use Rattle.mz.specs.declared.fault.FileFault.{FileFault}
use Rattle.mz.specs.declared.fault.FileFault.TheVariants.{Magic, Header, Truncated, RelocationOutside, DoesNotFit}
use Rattle.mz.specs.declared.fault.FileFault.TheVariants.{Device}
use Rattle.mz.specs.declared.fault.MzFault.{MzFault}
use Rattle.mz.specs.declared.fault.MzFault.TheVariants.{File, Memory}
use Rattle.mz.specs.Header.{magic, header_at, header_len, told_len, is_accepted, entry_at, is_inside}
use Rattle.mz.specs.File.{MzFile}

-- so many entries, one after the other from a place on
abbrev pub entries_at : (count place : ℕ) → List ℕ → List Entry
entries_at zero place bytes = []
entries_at (suc count) place bytes = entry_at place bytes ∷ entries_at count (place + 4) bytes

-- what a file holds, by its header. The image goes from the header's end to the file's.
unfoldable pub file_of : List ℕ → MzFile
file_of bytes =
    let h = header_at bytes in
    let entries = entries_at h.relocation_count h.relocation_table bytes in
    record { header = h; entries = entries; image = drop (header_len h) (take (told_len h) bytes) }

-- the first fault that stands in a file, or what it holds
unfoldable pub reading : List ℕ → Result MzFile FileFault
reading bytes =
    if nat_le 2 (length bytes) && not (word_at bytes 0 == magic) then Err Magic
    else if nat_le 28 (length bytes) && not (is_accepted (header_at bytes)) then Err Header
    else if nat_lt (length bytes) 28 || nat_lt (length bytes) (told_len (header_at bytes)) then Err Truncated
    else if not (list_all (is_inside (length (file_of bytes).image)) (file_of bytes).entries) then Err RelocationOutside
    else Ok (file_of bytes)

-- the answer is that one, unless the source failed or there was no memory
abbrev pub Gives : Result MzFile MzFault → Result MzFile FileFault → Type 0
Gives (Ok file) expected = expected ≡ Ok file
Gives (Err (File Device)) expected = Unit {0}
Gives (Err (File fault)) expected = expected ≡ Err fault
Gives (Err Memory) expected = Unit {0}

-- how many calls of the device failed
abbrev pub failures_in : {T : Type 0} → Result T MzFault → ℕ
failures_in (Err (File Device)) = 1
failures_in _ = 0

-- how many bytes reading may take before it answers
abbrev pub reach : Result MzFile FileFault → List ℕ → ℕ
reach (Ok file) bytes = told_len (header_at bytes)
reach (Err Magic) bytes = 28
reach (Err Header) bytes = 28
reach (Err Truncated) bytes = length bytes
reach (Err RelocationOutside) bytes = told_len (header_at bytes)
reach (Err DoesNotFit) bytes = 0
reach (Err Device) bytes = 0

-- a front of at most so many bytes was taken
abbrev pub TakesUpTo : Option (List ℕ) → Option (List ℕ) → ℕ → Type 0
TakesUpTo old new count = (front : List ℕ) × Consumes old new front × (length front ≤ count)

-- The bytes that the header tells were taken and no more; of a file that is cut off all; after a fault in the header at
-- most its words. Where the source failed or there was no memory, no byte was taken that reading it whole would leave;
-- only a source that failed may tell nothing afterwards.
abbrev pub Takes : Option (List ℕ) → Option (List ℕ) → Result MzFile MzFault → Type 0
Takes old new (Ok file) = IfSome old (λ bytes. Consumes old new (take (told_len (header_at bytes)) bytes))
Takes old new (Err (File Magic)) = TakesUpTo old new 28
Takes old new (Err (File Header)) = TakesUpTo old new 28
Takes old new (Err (File Truncated)) = IfSome old (Consumes old new)
Takes old new (Err (File RelocationOutside)) =
    IfSome old (λ bytes. Consumes old new (take (told_len (header_at bytes)) bytes))
Takes old new (Err (File DoesNotFit)) = ⊥
Takes old new (Err (File Device)) = IfSome old (λ bytes. TakesAtMost old new (reach (reading bytes) bytes))
Takes old new (Err Memory) = IfSome old (λ bytes. TakesUpTo old new (reach (reading bytes) bytes))
