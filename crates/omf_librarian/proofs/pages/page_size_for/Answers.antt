use Rattle.std.proofs.Common.{◌∙◌, sym, map}
use Rattle.omf_librarian.specs.Pages.{has_pages, page_sizes}
use Rattle.omf_librarian.specs.inside.Members.{bytes_in}
use Rattle.omf_librarian.proofs.Paging.{find_next}
use Rattle.omf_librarian.proofs.pages.page_size_for.Goals as goal

pub loop-size-preserved : goal.loop-size-preserved
loop-size-preserved g c =
    sym (find_next (has_pages (map bytes_in c.args.modules.now)) page_sizes c.loop-size.size-index c.loop-size-test.true
    (sym c.has_pages-in-loop-size.ensures ∙ c.if-has_pages-2.false))
    ∙ c.loop-size.invariant
