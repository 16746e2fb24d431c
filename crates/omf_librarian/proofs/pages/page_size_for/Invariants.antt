use Rattle.std.proofs.Common.{◌≡◌, drop, find, map}
use Rattle.omf_librarian.specs.Pages.{has_pages, page_sizes}
use Rattle.omf_librarian.specs.inside.Members.{bytes_in}
use Rattle.omf_librarian.proofs.pages.page_size_for.Given as goal

abbrev pub invariant-loop-size : goal.invariant-loop-size
invariant-loop-size g l =
    find (has_pages (map bytes_in l.modules)) (drop l.size-index page_sizes)
    ≡ find (has_pages (map bytes_in l.modules)) page_sizes
