use Rattle.std.proofs.Common.{◌≡◌, count_by, take, map}
use Rattle.omf_image.specs.inside.Pages.{made_pages}
use Rattle.omf_image.proofs.pages.Pages.page_count.Given as goal

abbrev pub invariant-loop-page : goal.invariant-loop-page
invariant-loop-page g l = l.count ≡ count_by (λ m. m) (take l.page-index (made_pages (map (λ p. p.items) l.page-items)))
