-- The object modules that become members of a library, and the names by which a dictionary has each.
use Rattle.std.specs.Prelude.{ℕ, ◌+◌, ◌==◌, Bool, not, ◌&&◌, ◌||◌, if◌then◌else◌, nat_lt, List, [], ◌∷◌, ◌++◌, length}
use Rattle.std.specs.Prelude.{map, slice_index, take, unwrap_or, Ok, Err}
use Rattle.std.specs.declared.result.Result.{Result}
use Rattle.std.specs.List.{list_any}
use Rattle.std.specs.Option.{option_and_then}
use Rattle.std.specs.Result.{result_ok}
use Rattle.omf_library.specs.Names.{offered_names}
use Rattle.omf_library.specs.Records.{header_name, module_end, module_records, record_at, result_and_then}
use Rattle.omf_library.specs.Members.{joined}
use Rattle.omf_library.specs.declared.fault.LibraryFault.{LibraryFault}
use Rattle.omf_library.specs.declared.fault.LibraryFault.TheVariants as found
use Rattle.omf_librarian.specs.declared.fault.LibrarianFault.{LibrarianFault}
use Rattle.omf_librarian.specs.declared.fault.LibrarianFault.TheVariants.{Header, Malformed, LongName, Memory}

-- ---- a module

-- its first record is one that heads a module: 80H THEADR, 82H LHEADR
abbrev pub is_headed : List ℕ → Bool
is_headed bytes = (slice_index bytes 0 == 0x80) || (slice_index bytes 0 == 0x82)

-- a fault of a record, as one of the member with this index
abbrev pub fault_in : (member : ℕ) → LibraryFault → LibrarianFault
fault_in member (found.Malformed place fault) = Malformed member place fault
fault_in member found.Memory = Memory

-- the bytes up to an end, or why there is none
abbrev pub part_up_to : (member : ℕ) → (bytes : List ℕ) → Result ℕ LibraryFault → Result (List ℕ) LibrarianFault
part_up_to member bytes (Ok end) = Ok (take end bytes)
part_up_to member bytes (Err fault) = Err (fault_in member fault)

-- the module at the front of bytes, up to the record that ends it: what stands behind it is no part
unfoldable pub module_of : (member : ℕ) → List ℕ → Result (List ℕ) LibrarianFault
module_of member bytes =
    if is_headed bytes then part_up_to member bytes (module_end bytes 0) else Err (Header member)

-- ---- its names

-- a folder, or a drive, ends there: `\`, `/` or `:`
abbrev pub ends_folder : ℕ → Bool
ends_folder b = (b == 0x5C) || (b == 0x2F) || (b == 0x3A)

-- a name of a file without its folders
abbrev pub without_folder : List ℕ → List ℕ
without_folder [] = []
without_folder (b ∷ bs) = if list_any ends_folder (b ∷ bs) then without_folder bs else b ∷ bs

-- and without its extension: the last dot, and what stands behind it
abbrev pub without_extension : List ℕ → List ℕ
without_extension [] = []
without_extension (b ∷ bs) =
    if (b == 0x2E) && not (list_any (λ c. c == 0x2E) bs) then [] else b ∷ without_extension bs

-- the name of a module: that of its first record
abbrev pub header_of : List ℕ → List ℕ
header_of m = unwrap_or (option_and_then header_name (result_ok (record_at m 0))) []

-- by which a dictionary has the module itself, without folder and extension
unfoldable pub module_name : List ℕ → List ℕ
module_name m = without_extension (without_folder (header_of m))

-- such a name, with `!` behind it; a module without a name has none
abbrev pub marked : List ℕ → List (List ℕ)
marked [] = []
marked (b ∷ bs) = ((b ∷ bs) ++ 0x21 ∷ []) ∷ []

-- the names by which a dictionary has a module: its own, and those that it offers
unfoldable pub names_of : List ℕ → List (List ℕ)
names_of m = marked (module_name m) ++ offered_names (module_records m 0)

-- a dictionary has room for names of at most 255 bytes
abbrev pub is_long : List ℕ → Bool
is_long name = nat_lt 255 (length name)

unfoldable pub checked : (member : ℕ) → List ℕ → Result (List ℕ) LibrarianFault
checked member m = if list_any is_long (names_of m) then Err (LongName member) else Ok m

-- ---- all members

-- the modules that these bytes are, the first having this index, or the first fault
abbrev pub modules_from : (member : ℕ) → List (List ℕ) → Result (List (List ℕ)) LibrarianFault
modules_from member [] = Ok []
modules_from member (bytes ∷ more) =
    result_and_then (λ m. joined (m ∷ []) (modules_from (member + 1) more))
    (result_and_then (checked member) (module_of member bytes))
