-- Answers of the program without where their bytes lie in memory.
use Rattle.std.specs.Prelude.{◌≡◌, ℕ, ◌+◌, ◌≤◌, ◌<◌, List, ◌++◌, length, map, slice_range, All, IfOk}
use Rattle.std.specs.Prelude.{None, Some, Ok, Err}
use Rattle.std.specs.declared.option.Option.{Option}
use Rattle.std.specs.declared.result.Result.{Result}
use Rattle.std.specs.Borrow.{Bor}
use Rattle.omf_frame.specs.Frame.{Frame, frame_of}
use Rattle.omf_library.specs.declared.fault.FormatFault.{FormatFault}
use Rattle.omf_library.specs.declared.fault.LibraryFault.{LibraryFault}
use Rattle.omf_library.specs.declared.entries.Entry.{Entry}
use Rattle.omf_library.specs.declared.entries.Entry.TheVariants.{Listed, External, Variable, Public, Alias}
use Rattle.omf_library.specs.declared.archive.Entry.{Entry as LentEntry}
use Rattle.omf_library.specs.declared.files.Member.{Member}
use Rattle.omf_library.specs.declared.aliases.Alias as lent_alias
use Rattle.omf_library.specs.declared.defaults.Defaulted as lent
use Rattle.omf_library.specs.Fields.{name_front}
use Rattle.omf_library.specs.Records.{record_or_fault}
use Rattle.omf_library.specs.Entries.{external_front, variable_front, public_front, alias_front}
use Rattle.omf_library.specs.Members.{PlainMember, plain_member}
use Rattle.omf_library.specs.Archive.{PlainEntry, at_place}
use Rattle.omf_library.specs.Files.{IsPart}
use Rattle.omf_library.specs.Aliases as aliases
use Rattle.omf_library.specs.Said.{alias_said, bytes_said, defaulted_said}
use Rattle.omf_library.specs.Defaults.{Defaulted}

-- a record's type and body, at this place
abbrev pub split_said : ℕ → Result (ℕ × Bor (List ℕ)) FormatFault → Result Frame FormatFault
split_said place (Ok (kind, body)) = Ok (record { place = place; kind = kind; body = body.now })
split_said place (Err e) = Err e

-- the record at the front of the bytes, at any place; its body is short enough for one
pub record IsSplit (bytes : List ℕ) (split : Result (ℕ × Bor (List ℕ)) FormatFault) : Type 0 where
  pub same : (place : ℕ) → at_place place (split_said place split) ≡ record_or_fault place (frame_of place bytes)
  pub fits : IfOk split (λ (kind, body). length body.now ≤ 65534)

-- the entry at the front of bytes, of which this name is meant
abbrev pub entry_front : Entry → List ℕ → Option (List ℕ × List ℕ)
entry_front Listed bytes = name_front bytes
entry_front External bytes = external_front bytes
entry_front Variable bytes = variable_front bytes
entry_front (Public offset) bytes = public_front offset bytes
entry_front Alias bytes = alias_front bytes

-- a member
abbrev pub member_said : Result Member LibraryFault → Result PlainMember LibraryFault
member_said (Ok m) = Ok (plain_member m)
member_said (Err e) = Err e

-- an archive's member as its header has it
abbrev pub plain_entry : LentEntry → PlainEntry
plain_entry e = record { name = e.name.now; bytes = e.bytes.now }

abbrev pub entry_said : {E : Type 0} → Result LentEntry E → Result PlainEntry E
entry_said (Ok e) = Ok (plain_entry e)
entry_said (Err e) = Err e

-- the content of an archive's member is the file's bytes behind the header at the place
pub record IsContent (file : List ℕ) (place : ℕ) (e : LentEntry) : Type 0 where
  pub short : length e.name.now ≤ 16
  pub within : place + 60 + length e.bytes.now ≤ length file
  pub own : e.bytes.now ≡ slice_range file (place + 60) (place + 60 + length e.bytes.now)

-- a library's member begins at the place and has bytes of the file
pub record IsMember (file : List ℕ) (place : ℕ) (m : Member) : Type 0 where
  pub at : m.place ≡ place
  pub some : 0 < length m.bytes.now
  pub within : place + length m.bytes.now ≤ length file
  pub own : m.bytes.now ≡ slice_range file place (place + length m.bytes.now)

-- these modules were appended, each the bytes at the place
pub record Pushed (modules : List PlainMember) (bytes : List ℕ) (place : ℕ) (old new : List Member) : Type 0 where
  pub told : map plain_member new ≡ map plain_member old ++ modules
  pub own : (file : List ℕ) → All (IsPart file) old → bytes ≡ slice_range file place (place + length bytes)
      → All (IsPart file) new

-- an external that may be there
abbrev pub external_found : Option (Option (Bor (List ℕ))) → Option (Option (List ℕ))
external_found None = None
external_found (Some name) = Some (bytes_said name)

-- an external, and the bytes behind it
abbrev pub external_said : Option (Option (Bor (List ℕ)) × Bor (List ℕ)) → Option (Option (List ℕ) × List ℕ)
external_said None = None
external_said (Some (name, rest)) = Some (bytes_said name, rest.now)

-- a pair of indexes, and the bytes behind it
abbrev pub pair_said : Option ((ℕ × ℕ) × Bor (List ℕ)) → Option ((ℕ × ℕ) × List ℕ)
pair_said None = None
pair_said (Some (pair, rest)) = Some (pair, rest.now)

-- an external with a default that may be there
abbrev pub defaulted_found : Option lent.Defaulted → Option Defaulted
defaulted_found None = None
defaulted_found (Some d) = Some (defaulted_said d)

-- an alias, and the bytes behind it
abbrev pub alias_found : Option (lent_alias.Alias × Bor (List ℕ)) → Option (aliases.Alias × List ℕ)
alias_found None = None
alias_found (Some (a, rest)) = Some (alias_said a, rest.now)
