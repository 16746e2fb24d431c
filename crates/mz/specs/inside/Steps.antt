-- The steps of reading: bytes up to a length, the header, the rest of the file.
use Rattle.std.specs.Prelude.{◌≡◌, ℕ, ◌<◌, ◌≤◌, ◌==◌, ◌⊎◌, Bool, false, not, ◌&&◌, ◌||◌, nat_le, nat_lt, if◌then◌else◌}
use Rattle.std.specs.Prelude.{List, ◌++◌}
use Rattle.std.specs.Prelude.{length, drop, Ok, Err}
use Rattle.std.specs.List.{list_all}
use Rattle.std.specs.declared.option.Option.{Option}
use Rattle.std.specs.declared.result.Result.{Result}
use Rattle.std.specs.Io.KnownBytes.{Consumes, IsAtEnd}
use Rattle.omf_image.specs.Words.{word_at}
use Rattle.mz.specs.declared.format.Header.{Header as HeaderWords}
use Rattle.mz.specs.declared.fault.FileFault.{FileFault}
use Rattle.mz.specs.declared.fault.FileFault.TheVariants.{Magic, Header, Truncated, RelocationOutside, Device}
use Rattle.mz.specs.declared.fault.MzFault.{MzFault}
use Rattle.mz.specs.declared.fault.MzFault.TheVariants.{File, Memory}
use Rattle.mz.specs.Header.{magic, header_at, header_len, told_len, is_accepted, is_inside}
use Rattle.mz.specs.File.{MzFile}
use Rattle.mz.specs.Reading.{entries_at, file_of}

-- bytes were read behind these, up to this length or to the end
pub record ReadsOn (len : ℕ) (old new : Option (List ℕ)) (before after : List ℕ) : Type 0 where
  pub more : List ℕ
  pub joined : after ≡ before ++ more
  pub taken : Consumes old new more
  pub within : length after ≤ len
  pub ends : length after < len → IsAtEnd new

-- the source failed, or there was no memory
abbrev pub Stops : MzFault → Type 0
Stops e = (e ≡ File Device) ⊎ (e ≡ Memory)

-- whether a fault stands in a file
unfoldable pub stands : FileFault → List ℕ → Bool
stands Magic bytes = nat_le 2 (length bytes) && not (word_at bytes 0 == magic)
stands Header bytes = nat_le 28 (length bytes) && not (is_accepted (header_at bytes))
stands Truncated bytes = nat_lt (length bytes) 28 || nat_lt (length bytes) (told_len (header_at bytes))
stands RelocationOutside bytes = not (list_all (is_inside (length (file_of bytes).image)) (file_of bytes).entries)
stands _ bytes = false

-- the header in the first bytes of a file, 28 or all that there are
abbrev pub header_in : List ℕ → Result HeaderWords FileFault
header_in xs =
    if nat_le 2 (length xs) && not (word_at xs 0 == magic) then Err Magic
    else if nat_lt (length xs) 28 then Err Truncated
    else if is_accepted (header_at xs) then Ok (header_at xs)
    else Err Header

-- what a file of this header holds, or that an entry lies outside
abbrev pub file_in : HeaderWords → List ℕ → Result MzFile FileFault
file_in h xs =
    let entries = entries_at h.relocation_count h.relocation_table xs in
    let image = drop (header_len h) xs in
    if list_all (is_inside (length image)) entries then Ok (record { header = h; entries = entries; image = image })
    else Err RelocationOutside
