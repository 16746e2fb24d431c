-- The lines of faults.
use Rattle.std.specs.Prelude.{ℕ, ◌+◌, ◌-◌, ◌^◌, List, [], ◌∷◌, ◌++◌, min, codes, decimal, Some, None, Ok, Err}
use Rattle.std.specs.declared.option.Option.{Option}
use Rattle.std.specs.declared.result.Result.{Result}
use Rattle.std.specs.List.{concat, flat_map}
use Rattle.omf_library.specs.declared.fault.FormatFault.{FormatFault}
use Rattle.omf_library.specs.declared.fault.FormatFault.TheVariants as format
use Rattle.omf_library.specs.declared.fault.LibraryFault.{LibraryFault}
use Rattle.omf_library.specs.declared.fault.LibraryFault.TheVariants.{Malformed, Memory}
use Rattle.omf_library.specs.Members.{PlainMember}
use Rattle.omf_library.specs.Records.{module_end}
use Rattle.doslib_text.specs.Parts.{fault_in, members_in, whole_members}

-- the number and the name of a fault
abbrev pub format_label : FormatFault → ℕ × List ℕ
format_label format.PageSize = (42, codes "PageSize")
format_label format.ZeroLength = (43, codes "ZeroLength")
format_label format.Truncated = (44, codes "Truncated")
format_label format.Closing = (45, codes "Closing")
format_label format.Header = (46, codes "Header")
format_label format.TooLong = (47, codes "TooLong")

-- the line of a fault with this number and name, behind so many bytes of the file at a path
abbrev pub located : (path : List ℕ) (label : ℕ × List ℕ) (place : ℕ) → List ℕ
located path label place =
    concat (codes "doslib: " ∷ path ∷ codes ": " ∷ decimal label.0 ∷ codes " " ∷ label.1 ∷ codes " at place "
    ∷ decimal place ∷ codes "\n" ∷ [])

-- that of a fault
abbrev pub fault_line : (path : List ℕ) (place : ℕ) → FormatFault → List ℕ
fault_line path place fault = located path (format_label fault) place

-- a place in a file, behind so many bytes of a part of it that begins at another one; there is none above the greatest
-- of 64 bits
abbrev pub place_behind : (begin place : ℕ) → ℕ
place_behind begin place = min (begin + place) (2 ^ 64 - 1)

-- the line of the first record at fault of a module, whose bytes begin at a place of the file, by where it ends
abbrev pub end_line : (path : List ℕ) (begin : ℕ) → Result ℕ LibraryFault → List ℕ
end_line path begin (Ok end) = []
end_line path begin (Err (Malformed place fault)) = fault_line path (place_behind begin place) fault
end_line path begin (Err Memory) = []

-- that of a member
abbrev pub module_fault : (path : List ℕ) → PlainMember → List ℕ
module_fault path m = end_line path m.place (module_end m.bytes 0)

-- the line of a file's own fault, where it has one
abbrev pub file_fault : (path : List ℕ) → Option (ℕ × FormatFault) → List ℕ
file_fault path None = []
file_fault path (Some (place, fault)) = fault_line path place fault

-- the lines of a file at a path with these members and this fault
abbrev pub faults_text : (path : List ℕ) → List PlainMember → Option (ℕ × FormatFault) → List ℕ
faults_text path members fault = flat_map (module_fault path) members ++ file_fault path fault

-- those of the file with these bytes: of its members that are whole by its form, and its own
unfoldable pub list_faults : (path file : List ℕ) → List ℕ
list_faults path file = faults_text path (whole_members file) (fault_in (members_in file))
