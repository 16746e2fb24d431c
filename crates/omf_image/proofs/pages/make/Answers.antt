use Rattle.std.proofs.Common.{◌∙◌, sym, arith, vec_len}
use Rattle.std.proofs.lemmas.Bool.{eqb-true}
use Rattle.omf_image.proofs.Paging.{page_bytes-absent}
use Rattle.omf_image.proofs.pages.make.Goals as goal

pub returns-in_ok-page-clause-made : goal.returns-in_ok-page-clause-made
returns-in_ok-page-clause-made g c =
    c.in_ok-page.ensures.items_if_clones_equal (λ y h. h)
    ∙ sym
    (page_bytes-absent c.args.page.now.items
    (omega (
      arith,
      c.args.page.now.ok.0,
      eqb-true (vec_len c.args.page.now) 0 (sym c.is_empty.ensures ∙ c.if-is_empty.true),
    )))
