-- The lines of what is amiss with a library that is made or changed.
use Rattle.std.specs.Prelude.{ℕ, List, [], ◌∷◌, codes, decimal, slice_get}
use Rattle.std.specs.List.{concat, flat_map}
use Rattle.std.specs.Option.{option_map_or}
use Rattle.omf_text.specs.Printing.{printed_name}
use Rattle.omf_librarian.specs.declared.fault.LibrarianFault.{LibrarianFault}
use Rattle.omf_librarian.specs.declared.fault.LibrarianFault.TheVariants as librarian
use Rattle.omf_librarian.specs.Modules.{module_name}
use Rattle.omf_librarian.specs.Naming.{Doubled}
use Rattle.doslib_text.specs.Faults.{format_label}
use Rattle.doslib_jobs.specs.Libraries.{NoMember, NotLibrary, Refusal}

-- what a path names is no library, or has no member of a name
abbrev pub refusal_line : (path : List ℕ) → Refusal → List ℕ
refusal_line path NotLibrary = concat (codes "doslib: " ∷ path ∷ codes ": 73 NotLibrary\n" ∷ [])
refusal_line path (NoMember name) =
    concat (codes "doslib: " ∷ path ∷ codes ": 74 NoMember " ∷ printed_name name ∷ codes "\n" ∷ [])

-- the number and the name of a fault of what is made; want of memory has none, since a run that lacks it stops
abbrev pub librarian_label : LibrarianFault → ℕ × List ℕ
librarian_label librarian.PageSize = (42, codes "PageSize")
librarian_label (librarian.Header member) = (7, codes "NotHeader")
librarian_label (librarian.Malformed member place fault) = format_label fault
librarian_label (librarian.LongName member) = (75, codes "LongName")
librarian_label librarian.Pages = (76, codes "TooManyPages")
librarian_label librarian.Names = (77, codes "TooManyNames")
librarian_label librarian.Memory = (0, [])

-- behind how many members the one is that is at fault
abbrev pub behind_members : (count : ℕ) → List ℕ
behind_members count = concat (codes " behind " ∷ decimal count ∷ codes " members" ∷ [])

-- where the fault is
abbrev pub librarian_place : LibrarianFault → List ℕ
librarian_place (librarian.Header member) = behind_members member
librarian_place (librarian.Malformed member place fault) =
    concat (behind_members member ∷ codes " at place " ∷ decimal place ∷ [])
librarian_place (librarian.LongName member) = behind_members member
librarian_place _ = []

abbrev pub librarian_line : (path : List ℕ) → LibrarianFault → List ℕ
librarian_line path fault =
    concat (codes "doslib: " ∷ path ∷ codes ": " ∷ decimal (librarian_label fault).0 ∷ codes " "
    ∷ (librarian_label fault).1 ∷ librarian_place fault ∷ codes "\n" ∷ [])

-- the name of the module with this index
abbrev pub name_at : (modules : List (List ℕ)) → (index : ℕ) → List ℕ
name_at modules index = option_map_or module_name (slice_get modules index) []

-- a name that two members of a library of these modules have, which is found at the first
abbrev pub doubled_line : (path : List ℕ) → (modules : List (List ℕ)) → Doubled → List ℕ
doubled_line path modules d =
    concat (codes "doslib: warning: " ∷ path ∷ codes ": " ∷ printed_name d.name ∷ codes " is in "
    ∷ printed_name (name_at modules d.first) ∷ codes " and in " ∷ printed_name (name_at modules d.second)
    ∷ codes "\n" ∷ [])

abbrev pub doubled_lines : (path : List ℕ) → (modules : List (List ℕ)) → List Doubled → List ℕ
doubled_lines path modules doubled = flat_map (doubled_line path modules) doubled
