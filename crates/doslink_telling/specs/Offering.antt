-- The members of archives that symbol tables say to define names which are missing.
use Rattle.std.specs.Prelude.{ℕ, ◌-◌, ◌==◌, ◌&&◌, Bool, List, [], filter, map, Ok, Err}
use Rattle.std.specs.declared.result.Result.{Result}
use Rattle.std.specs.List.{enumerate_from, flat_map, list_any}
use Rattle.omf_library.specs.declared.fault.LibraryFault.{LibraryFault}
use Rattle.omf_library.specs.Files.{file_kind, members_of}
use Rattle.omf_library.specs.Members.{PlainMember}
use Rattle.omf_place.specs.Names.{agrees}
use Rattle.omf_place.specs.declared.names.Names.{Names}
use Rattle.doslink_telling.specs.Symbols.{Symbol, symbols}
use Rattle.doslink_telling.specs.declared.offering.Offering as member

-- a member, with the index of its archive
pub record Offering : Type 0 where
  pub file : ℕ
  pub name : List ℕ
  pub bytes : List ℕ

-- the same as the code has it
abbrev pub offering_said : member.Offering → Offering
offering_said o = record { file = o.file; name = o.name.now; bytes = o.bytes.now }

-- a member of the file with this index
abbrev pub offered : (file : ℕ) → PlainMember → Offering
offered file m = record { file = file; name = m.name; bytes = m.bytes }

-- a name is one of those
abbrev pub is_missing : Names → (missing : List (List ℕ)) → (name : List ℕ) → Bool
is_missing names missing name = list_any (λ m. agrees names m name) missing

-- some symbol is one of these names, of the member whose header is at this place
abbrev pub offers : Names → (missing : List (List ℕ)) → List Symbol → (place : ℕ) → Bool
offers names missing found place = list_any (λ s. is_missing names missing s.name && s.place == place) found

-- the members of a file, none where it is at fault
abbrev pub sound_members : Result (List PlainMember) LibraryFault → List PlainMember
sound_members (Ok members) = members
sound_members (Err fault) = []

-- the members of the file with this index by which its symbol table offers one of these names, in their order
abbrev pub offering_in : Names → (missing : List (List ℕ)) → ℕ × List ℕ → List Offering
offering_in names missing p =
    map (offered p.0) (filter (λ m. offers names missing (symbols p.1) (m.place - 60))
    (sound_members (members_of (file_kind p.1) p.1)))

-- the same of all files, in their order
abbrev pub all_offering : Names → (missing : List (List ℕ)) → (files : List (List ℕ)) → List Offering
all_offering names missing files = flat_map (offering_in names missing) (enumerate_from 0 files)
