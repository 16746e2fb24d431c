-- How many bytes from the front of a file tell its modules; none where the bytes end before, or are at fault.
use Rattle.std.specs.Prelude.{◌≡◌, ℕ, zero, suc, ◌+◌, ◌==◌, ◌≤◌, if◌then◌else◌, nat_le, List, [], ◌∷◌, ◌++◌, length}
use Rattle.std.specs.Prelude.{slice_index, take, unwrap_or, None, Some, Ok}
use Rattle.std.specs.declared.option.Option.{Option}
use Rattle.std.specs.declared.result.Result.{Result}
use Rattle.std.specs.Int.{next_multiple_of}
use Rattle.std.specs.Option.{option_map_or}
use Rattle.std.specs.Result.{result_ok}
use Rattle.omf_library.specs.declared.fault.LibraryFault.{LibraryFault}
use Rattle.omf_library.specs.declared.files.FileKind.{FileKind}
use Rattle.omf_library.specs.declared.files.FileKind.TheVariants.{Object, Library, Archive}
use Rattle.omf_library.specs.Archive.{archive_members}
use Rattle.omf_library.specs.Files.{file_kind}
use Rattle.omf_library.specs.Library.{library_members, member_at, page_size}
use Rattle.omf_library.specs.Members.{PlainMember}
use Rattle.omf_library.specs.Records.{result_and_then}

-- of a library: up to the type of the record that ends its members, F1H, which stands at a page; so many pages at most
abbrev pub end_up_to : ℕ → (page : ℕ) → List ℕ → (place : ℕ) → Option ℕ
end_up_to zero page file place = None
end_up_to (suc most) page file place =
    if nat_le (length file) place then None
    else if slice_index file place == 0xF1 then Some (place + 1)
    else option_map_or (λ m. end_up_to most page file (next_multiple_of (place + length m.bytes) page))
    (result_ok (member_at file place)) None

unfoldable pub library_end : List ℕ → Option ℕ
library_end file = option_map_or (λ page. end_up_to (length file) page file page) (result_ok (page_size file)) None

-- of an object module: up to the record that ends it
abbrev pub object_end : List ℕ → Option ℕ
object_end file = option_map_or (λ m. Some (length m.bytes)) (result_ok (member_at file 0)) None

-- of a file of this kind: an archive has no end but its own
abbrev pub end_of : FileKind → List ℕ → Option ℕ
end_of Object file = object_end file
end_of Library file = library_end file
end_of Archive file = None

abbrev pub modules_end : List ℕ → Option ℕ
modules_end file = end_of (file_kind file) file

-- the modules of a file of this kind: of an object module the records up to the one that ends it
abbrev pub modules_in : FileKind → List ℕ → Result (List PlainMember) LibraryFault
modules_in Object file = result_and_then (λ m. Ok (m ∷ [])) (member_at file 0)
modules_in Library file = library_members file
modules_in Archive file = archive_members file

-- The modules of a file end here: they do whatever stands behind, and are the same.
pub record EndsThere (file : List ℕ) (end : ℕ) : Type 0 where
  pub within : end ≤ length file
  pub same_end : (rest : List ℕ) → modules_end (take end file ++ rest) ≡ Some end
  pub same_modules : (rest : List ℕ)
      → modules_in (file_kind (take end file ++ rest)) (take end file ++ rest) ≡ modules_in (file_kind file) file

-- the bytes of a file that tell its modules: up to their end, and all where they have none
abbrev pub modules_part : List ℕ → List ℕ
modules_part file = take (unwrap_or (modules_end file) (length file)) file
