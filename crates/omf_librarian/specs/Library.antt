-- The library that modules make, and what is read of it.
use Rattle.std.specs.Prelude.{◌≡◌, ℕ, ◌+◌, ◌*◌, List, [], ◌∷◌, Ok, Err}
use Rattle.std.specs.declared.option.Option.{Option}
use Rattle.std.specs.declared.result.Result.{Result}
use Rattle.std.specs.Option.{ok_or, option_map}
use Rattle.omf_library.specs.Files.{file_kind, members_of}
use Rattle.omf_library.specs.Library.{name_in}
use Rattle.omf_library.specs.Members.{PlainMember}
use Rattle.omf_library.specs.Records.{module_records, result_and_then}
use Rattle.omf_librarian.specs.Dictionary.{looked_up}
use Rattle.omf_librarian.specs.Entering.{dictionary_of}
use Rattle.omf_librarian.specs.Modules.{modules_from}
use Rattle.omf_librarian.specs.Naming.{Doubled, Named, all_named, doubled_behind, entries_behind, first_of, pages_of}
use Rattle.omf_librarian.specs.Pages.{asked_size, page_size_for}
use Rattle.omf_librarian.specs.Writing.{library_bytes}
use Rattle.omf_librarian.specs.declared.fault.LibrarianFault.{LibrarianFault}
use Rattle.omf_librarian.specs.declared.fault.LibrarianFault.TheVariants.{Names}

-- a library, and the names that more than one member has
pub record PlainLibrary : Type 0 where
  pub bytes : List ℕ
  pub doubled : List Doubled

-- the names of all members
abbrev pub names_in : (size : ℕ) → (modules : List (List ℕ)) → List Named
names_in size modules = all_named size 0 1 modules

-- the library of modules with pages of this size
abbrev pub library_with : (modules : List (List ℕ)) → (size : ℕ) → Result PlainLibrary LibrarianFault
library_with modules size =
    result_and_then (λ dictionary. Ok (record {
      bytes = library_bytes size modules dictionary;
      doubled = doubled_behind [] (names_in size modules);
    }))
    (ok_or (dictionary_of (entries_behind [] (names_in size modules))) Names)

-- the library of the modules that these bytes are, or the first fault: of the size that is asked for, of the members in
-- their order, of their pages, of their names
unfoldable pub library_of : (asked : Option ℕ) → (members : List (List ℕ)) → Result PlainLibrary LibrarianFault
library_of asked members =
    result_and_then (λ size. result_and_then (λ modules.
    result_and_then (library_with modules) (page_size_for size modules))
    (modules_from 0 members)) (asked_size asked)

-- ---- what is read of it

-- the modules as members of a file, with the places at which they stand
abbrev pub placed : (size page : ℕ) → List (List ℕ) → List PlainMember
placed size page [] = []
placed size page (m ∷ ms) =
    record { place = size * page; bytes = m; name = name_in (module_records m 0) }
    ∷ placed size (page + pages_of size m) ms

-- the bytes are a library of the modules with pages of this size: its members are these, and each name that one of
-- them has is found in it at the page of the first that has it, and no other name
pub record IsLibraryOf (modules : List (List ℕ)) (size : ℕ) (bytes : List ℕ) : Type 0 where
  pub members : members_of (file_kind bytes) bytes ≡ Ok (placed size 1 modules)
  pub found : (name : List ℕ)
      → looked_up bytes name ≡ option_map (λ (n : Named). n.page) (first_of (names_in size modules) name)

-- they are what is read of the library that these bytes make
pub record IsReadOf (asked : Option ℕ) (members : List (List ℕ)) (bytes : List ℕ) : Type 0 where
  pub modules : List (List ℕ)
  pub size : ℕ
  pub are_modules : modules_from 0 members ≡ Ok modules
  pub has_size : result_and_then (λ s. page_size_for s modules) (asked_size asked) ≡ Ok size
  pub library : IsLibraryOf modules size bytes
