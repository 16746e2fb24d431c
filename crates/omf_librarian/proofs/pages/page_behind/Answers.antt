use Rattle.std.proofs.Common.{◌≡◌, ◌≤◌, ◌+◌, ℕ, List, [], length, map, drop, get_or, sym, ap, ◌∙◌, arith}
use Rattle.std.proofs.lemmas.List.{drop_all}
use Rattle.omf_librarian.specs.Pages.{page_behind}
use Rattle.omf_librarian.specs.inside.Members.{bytes_in}
use Rattle.omf_librarian.proofs.Paging.{behind_least, behind_step, pages_many, pages_told}
use Rattle.omf_librarian.proofs.pages.page_behind.Goals as goal

pub returns-then-page-gt-LAST_PAGE-clause-said : goal.returns-then-page-gt-LAST_PAGE-clause-said
returns-then-page-gt-LAST_PAGE-clause-said g c =
    let ms = c.args.modules.now in
    let i = c.loop-module.module-index in
    let more = c.div_ceil-page.result in
    let step =
    behind_step bytes_in ms i c.module-item.result c.args.size c.loop-module.page more c.loop-module-test.true
    c.module-item.is c.div_ceil-page.ensures in
    pages_many (map bytes_in ms) c.args.size (c.loop-module.page + more) c.if-page-gt-LAST_PAGE.true
    (omega (
      arith,
      behind_least c.args.size (c.loop-module.page + more) (map bytes_in (drop (i + 1) ms)),
      step,
      c.loop-module.invariant.same,
    ))

pub returns-clause-said : goal.returns-clause-said
returns-clause-said g c =
    let ms = c.args.modules.now in
    pages_told (map bytes_in ms) c.args.size c.loop-module.page c.loop-module.invariant.fits
    (sym (ap (λ l. page_behind c.args.size c.loop-module.page (map bytes_in l))
    (drop_all c.loop-module.module-index ms (omega (arith, c.loop-module-test.false))))
    ∙ c.loop-module.invariant.same)
