use Rattle.std.proofs.Common.{◌≡◌, ◌∙◌, sym, ap, arith, map, not, true, false, Bool, ℕ, List, count_by, get_or, take}
use Rattle.std.proofs.Common.{Vec}
use Rattle.std.proofs.lemmas.List.{length-take, take_all}
use Rattle.std.proofs.lemmas.List.Sums.{count_by-le-length, count_by_more_yes, count_by_more_no}
use Rattle.omf_image.specs.inside.Pages.{Paged, made_pages}
use Rattle.omf_image.proofs.Paging.{made_at, length-made}
use Rattle.omf_image.proofs.pages.Pages.page_count.Goals as goal
use Rattle.omf_image.proofs.pages.Pages.page_count.Goals.{then-not-is_empty, else-not-is_empty}

pub loop-page-preserved : goal.loop-page-preserved
loop-page-preserved g c =
    let ps = c.deref-page-items.result.now in
    let i = c.loop-page.page-index in
    let n = length-made ps in
    let made : List Bool = made_pages (map (λ p. p.items) ps) in
    let here = made_at ps i c.page-item.result c.loop-page-test.true c.page-item.is in
    let inv = c.loop-page.invariant in
    elim c.if-not-is_empty.branch [
      | then-not-is_empty w ↦
          let t : get_or made i false ≡ true = here ∙ ap not (sym c.is_empty.ensures ∙ w.if-not-is_empty.true) in
          let k = count_by_more_yes (λ (m : Bool). m) made i false (omega (arith, n, c.loop-page-test.true)) t in
          omega (arith, w.count-is, inv, k)
      | else-not-is_empty w ↦
          let t : get_or made i false ≡ false = here ∙ ap not (sym c.is_empty.ensures ∙ w.if-not-is_empty.false) in
          let k = count_by_more_no (λ (m : Bool). m) made i false (omega (arith, n, c.loop-page-test.true)) t in
          omega (arith, w.count-is, inv, k)
    ]

pub returns : goal.returns
returns g c =
    let ps = c.deref-page-items.result.now in
    let n = length-made ps in
    let made : List Bool = made_pages (map (λ p. p.items) ps) in
    c.loop-page.invariant
    ∙ ap (count_by (λ (m : Bool). m)) (take_all c.loop-page.page-index made (omega (arith, n, c.loop-page-test.false)))
    ∙ ap (λ (v : List (Vec ℕ _)). count_by (λ (m : Bool). m) (made_pages (map (λ p. p.items) v)))
    c.deref-page-items.ensures.value
    ∙ ap (λ (i : Paged). count_by (λ (m : Bool). m) i.made) c.self.view_is

pub overflow_add-count : goal.overflow_add-count
overflow_add-count g c =
    let ps = c.deref-page-items.result.now in
    let i = c.loop-page.page-index in
    let made : List Bool = made_pages (map (λ p. p.items) ps) in
    let most = count_by-le-length (λ (m : Bool). m) (take i made) in
    omega (arith, c.loop-page.invariant, most, length-take i made, c.loop-page-test.true)
