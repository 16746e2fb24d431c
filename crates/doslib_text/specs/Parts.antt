-- What of a file that is at fault is whole: what stands before its fault, taken as a file of its own. (The standard
-- says nothing of damaged files.)
use Rattle.std.specs.Prelude.{ℕ, zero, suc, ◌-◌, if◌then◌else◌, nat_lt, List, [], ◌∷◌, ◌++◌, length, take, replicate}
use Rattle.std.specs.Prelude.{Some, None, Ok, Err, Vec, option_map}
use Rattle.std.specs.declared.option.Option.{Option}
use Rattle.std.specs.declared.result.Result.{Result}
use Rattle.std.specs.Int.{next_multiple_of}
use Rattle.std.specs.Option.{option_map_or}
use Rattle.std.specs.Result.{result_ok}
use Rattle.omf_library.specs.declared.fault.FormatFault.{FormatFault}
use Rattle.omf_library.specs.declared.fault.LibraryFault.{LibraryFault}
use Rattle.omf_library.specs.declared.fault.LibraryFault.TheVariants.{Malformed, Memory}
use Rattle.omf_library.specs.declared.files.FileKind.{FileKind}
use Rattle.omf_library.specs.declared.files.FileKind.TheVariants.{Object, Library, Archive}
use Rattle.omf_library.specs.Files.{file_kind, members_of}
use Rattle.omf_library.specs.Library.{page_size}
use Rattle.omf_library.specs.Members.{PlainMember}
use Rattle.omf_library.specs.Records.{module_end}
use Rattle.doslib_text.specs.declared.parts.Whole.{Whole}

-- the place of the first member of a library that isn't whole, from a place on at which a member begins; or of the page
-- at which the file is cut off. So many members at most are whole
abbrev pub broken_from : ℕ → (page : ℕ) → List ℕ → (place : ℕ) → ℕ
broken_from zero page file place = place
broken_from (suc most) page file place =
    if nat_lt (length file) place then place
    else option_map_or (λ end. broken_from most page file (next_multiple_of end page))
    (result_ok (module_end file place)) place

-- the bytes up to a place, with zeros where there are none
abbrev pub up_to : (place : ℕ) → List ℕ → List ℕ
up_to place file = take place file ++ replicate (place - length file) 0

-- a library up to its first member that isn't whole, in whose place the record F1H ends the members
-- (TIS OMF 1.1, "Library Module Format")
unfoldable pub library_part : List ℕ → Option (List ℕ)
library_part file = option_map
    (λ page. up_to (broken_from (length file) page file page) file ++ 0xF1 ∷ []) (result_ok (page_size file))

-- what stands before the fault of a file of this kind: of an archive what stands before the header at this place
abbrev pub part_before : FileKind → (place : ℕ) → List ℕ → Option (List ℕ)
part_before Library place file = library_part file
part_before Archive place file = Some (take place file)
part_before Object place file = None

-- the members of a file
abbrev pub members_in : List ℕ → Result (List PlainMember) LibraryFault
members_in file = members_of (file_kind file) file

-- those of a file without a fault
abbrev pub members_or_none : Result (List PlainMember) LibraryFault → List PlainMember
members_or_none (Ok members) = members
members_or_none (Err fault) = []

-- the members of what is held of a file, which may be nothing
abbrev pub members_held : Option (List ℕ) → List PlainMember
members_held held = option_map_or (λ part. members_or_none (members_in part)) held []

-- those of a file that is held as far as it is whole
abbrev pub kept_members : {A : Type 0} → Whole A → List PlainMember
kept_members {A} w = members_held (option_map (λ (v : Vec ℕ A). v.items) w.bytes)

-- the members of a file of this kind before its fault at a place
abbrev pub members_before : FileKind → (place : ℕ) → List ℕ → List PlainMember
members_before kind place file = members_held (part_before kind place file)

-- the members of a file, by what reading it answers: of one at fault those before its fault
abbrev pub members_told : Result (List PlainMember) LibraryFault → List ℕ → List PlainMember
members_told (Ok members) file = members
members_told (Err (Malformed place fault)) file = members_before (file_kind file) place file
members_told (Err Memory) file = []

-- the members of a file that are whole
abbrev pub whole_members : List ℕ → List PlainMember
whole_members file = members_told (members_in file) file

-- the fault of a file, by what reading it answers: how many bytes stand before what is at fault, and what is wrong
abbrev pub fault_in : {A : Type 0} → Result A LibraryFault → Option (ℕ × FormatFault)
fault_in (Ok members) = None
fault_in (Err (Malformed place fault)) = Some (place, fault)
fault_in (Err Memory) = None
