use Rattle.std.proofs.Common.{◌≡◌, ◌∙◌, ◌/◌, ◌%◌, ◌⊎◌, sym, ap, length, get_or, arith, vec_len}
use Rattle.std.proofs.lemmas.Bool.{eqb-true, eqb-false}
use Rattle.std.proofs.lemmas.List.{get_or_read}
use Rattle.omf_image.specs.inside.Pages.{Paged}
use Rattle.omf_image.proofs.Paging.{length-joined, page_inside, page_is, byte_is, absent, page_bytes-present}
use Rattle.omf_image.proofs.pages.Pages.byte.Goals as goal

pub index-page-requires : goal.index-page-requires
index-page-requires g c =
    let i = c.self.inside in
    let e : length c.args.self.now.bytes ≡ i.size =
    ap (λ (i : Paged). length i.bytes) (sym c.self.view_is) ∙ length-joined i.size _ c.self.invariant.0 in
    let k = page_inside i.size i.pages.items c.args.address c.self.invariant.0 (omega (arith, e, c.requires)) in
    omega (arith, i.pages.ok.0, k)

pub index-requires : goal.index-requires
index-requires g c =
    let i = c.self.inside in
    let p = c.index-page.result.now in
    let e : length c.args.self.now.bytes ≡ i.size =
    ap (λ (i : Paged). length i.bytes) (sym c.self.view_is) ∙ length-joined i.size _ c.self.invariant.0 in
    let k = page_inside i.size i.pages.items c.args.address c.self.invariant.0 (omega (arith, e, c.requires)) in
    let is : (length p.items ≡ 0) ⊎ (length p.items ≡ 4096) =
    page_is i.size i.pages.items (c.args.address / 4096) p c.self.invariant.0 k c.index-page.ensures in
    let some = eqb-false (vec_len p) 0 (sym c.is_empty.ensures ∙ c.if-is_empty.false) in
    omega (arith, p.ok.0, is, some)

pub returns-then-is_empty : goal.returns-then-is_empty
returns-then-is_empty g c =
    let i = c.self.inside in
    let p = c.index-page.result.now in
    let e : length c.args.self.now.bytes ≡ i.size =
    ap (λ (i : Paged). length i.bytes) (sym c.self.view_is) ∙ length-joined i.size _ c.self.invariant.0 in
    let none : length p.items ≡ 0 =
    omega (arith, p.ok.0, eqb-true (vec_len p) 0 (sym c.is_empty.ensures ∙ c.if-is_empty.true)) in
    sym (ap (λ (i : Paged). get_or i.bytes c.args.address 0) (sym c.self.view_is)
    ∙ byte_is i.size i.pages.items c.args.address p c.self.invariant.0 (omega (arith, e, c.requires))
    c.index-page.ensures
    ∙ absent p.items (c.args.address % 4096) none (omega arith))

pub returns-else-is_empty : goal.returns-else-is_empty
returns-else-is_empty g c =
    let i = c.self.inside in
    let p = c.index-page.result.now in
    let e : length c.args.self.now.bytes ≡ i.size =
    ap (λ (i : Paged). length i.bytes) (sym c.self.view_is) ∙ length-joined i.size _ c.self.invariant.0 in
    let k = page_inside i.size i.pages.items c.args.address c.self.invariant.0 (omega (arith, e, c.requires)) in
    let is : (length p.items ≡ 0) ⊎ (length p.items ≡ 4096) =
    page_is i.size i.pages.items (c.args.address / 4096) p c.self.invariant.0 k c.index-page.ensures in
    let some = eqb-false (vec_len p) 0 (sym c.is_empty.ensures ∙ c.if-is_empty.false) in
    sym (ap (λ (i : Paged). get_or i.bytes c.args.address 0) (sym c.self.view_is)
    ∙ byte_is i.size i.pages.items c.args.address p c.self.invariant.0 (omega (arith, e, c.requires))
    c.index-page.ensures
    ∙ ap (λ (l : _). get_or l (c.args.address % 4096) 0)
    (page_bytes-present p.items (λ z. some (omega (arith, p.ok.0, z))))
    ∙ sym
    (get_or_read p.items (c.args.address % 4096) c.index.result.now (omega (arith, p.ok.0, is, some)) c.index.ensures
    0))
