-- The pages of a library: each member begins at one, and their numbers have 16 bits.
use Rattle.std.specs.Prelude.{ℕ, ◌+◌, Bool, if◌then◌else◌, nat_le, List, [], ◌∷◌, Some, None, Ok, Err}
use Rattle.std.specs.Option.{ok_or}
use Rattle.std.specs.declared.option.Option.{Option}
use Rattle.std.specs.declared.result.Result.{Result}
use Rattle.std.specs.List.{find}
use Rattle.omf_library.specs.Library.{is_page_size}
use Rattle.omf_librarian.specs.Naming.{pages_of}
use Rattle.omf_librarian.specs.declared.fault.LibrarianFault.{LibrarianFault}
use Rattle.omf_librarian.specs.declared.fault.LibrarianFault.TheVariants.{PageSize, Pages}

-- the page behind members, the first of which begins at this page
abbrev pub page_behind : (size page : ℕ) → List (List ℕ) → ℕ
page_behind size page [] = page
page_behind size page (m ∷ ms) = page_behind size (page + pages_of size m) ms

-- all pages up to that of the end record have numbers of 16 bits: the header is page 0
unfoldable pub has_pages : List (List ℕ) → (size : ℕ) → Bool
has_pages members size = nat_le (page_behind size 1 members) 65535

-- the sizes that a page can have
abbrev pub page_sizes : List ℕ
page_sizes = 16 ∷ 32 ∷ 64 ∷ 128 ∷ 256 ∷ 512 ∷ 1024 ∷ 2048 ∷ 4096 ∷ 8192 ∷ 16384 ∷ 32768 ∷ []

-- the size that was asked for, or the least with which there are such pages
unfoldable pub page_size_for : (asked : Option ℕ) → List (List ℕ) → Result ℕ LibrarianFault
page_size_for None members = ok_or (find (has_pages members) page_sizes) Pages
page_size_for (Some size) members = if has_pages members size then Ok size else Err Pages

-- a size that is asked for has to be one
unfoldable pub asked_size : (asked : Option ℕ) → Result (Option ℕ) LibrarianFault
asked_size None = Ok None
asked_size (Some size) = if is_page_size size then Ok (Some size) else Err PageSize
