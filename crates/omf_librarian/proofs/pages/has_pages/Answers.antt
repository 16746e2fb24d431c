use Rattle.std.proofs.Common.{◌∙◌}
use Rattle.omf_librarian.proofs.Paging.{told_by}
use Rattle.omf_librarian.proofs.pages.has_pages.Goals as goal

pub returns : goal.returns
returns g c = c.is_some.ensures ∙ told_by _ _ _ c.page_behind.ensures.said
