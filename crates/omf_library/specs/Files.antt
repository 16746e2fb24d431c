-- What a file is, and the members that it has.
use Rattle.std.specs.Prelude.{◌≡◌, ℕ, ◌+◌, ◌==◌, if◌then◌else◌, nat_eq, List, [], ◌∷◌, ◌++◌, length, map, slice_index}
use Rattle.std.specs.Prelude.{slice_range, codes, Ok, Err}
use Rattle.std.specs.declared.result.Result.{Result}
use Rattle.std.specs.List.{starts_with}
use Rattle.omf_library.specs.declared.files.FileKind.{FileKind}
use Rattle.omf_library.specs.declared.files.FileKind.TheVariants.{Object, Library, Archive}
use Rattle.omf_library.specs.declared.files.Member.{Member}
use Rattle.omf_library.specs.declared.fault.LibraryFault.{LibraryFault}
use Rattle.omf_library.specs.declared.fault.LibraryFault.TheVariants.{Malformed, Memory}
use Rattle.omf_library.specs.Members.{PlainMember, plain_member}
use Rattle.omf_library.specs.Library.{library_members}
use Rattle.omf_library.specs.Archive.{archive_members}

-- the eight bytes that begin an archive: `!<arch>` and a line end
abbrev pub archive_front : List ℕ
archive_front = codes "!<arch>" ++ 0x0A ∷ []

-- what a file is, by its first bytes alone
unfoldable pub file_kind : List ℕ → FileKind
file_kind file =
    if slice_index file 0 == 0xF0 then Library
    else if starts_with nat_eq file archive_front then Archive
    else Object

-- the members of a file of this kind; what is neither a library nor an archive is its own only member, without a name
abbrev pub members_of : FileKind → List ℕ → Result (List PlainMember) LibraryFault
members_of Library file = library_members file
members_of Archive file = archive_members file
members_of Object file = Ok (record { place = 0; bytes = file; name = [] } ∷ [])

-- the fault is that one, unless it is want of memory
abbrev pub IsFault : {A : Type 0} → LibraryFault → Result A LibraryFault → Type 0
IsFault (Malformed place fault) stands = stands ≡ Err (Malformed place fault)
IsFault Memory stands = Unit {0}

-- these members are those, or the fault is that one
abbrev pub AreMembers : List Member → Result (List PlainMember) LibraryFault → Type 0
AreMembers ms stands = stands ≡ Ok (map plain_member ms)

-- the bytes of a member are those of the file at its place
abbrev pub IsPart : List ℕ → Member → Type 0
IsPart file m = m.bytes.now ≡ slice_range file m.place (m.place + length m.bytes.now)
