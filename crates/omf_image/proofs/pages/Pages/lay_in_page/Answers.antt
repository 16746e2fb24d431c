use Rattle.std.proofs.Common.{◌≡◌, ◌∙◌, ℕ, ◌/◌, ◌%◌, sym, ap, length, get_or, set, map, arith, inr, List, subst, true}
use Rattle.std.proofs.Common.{false, cond, eqb, Vec}
use Rattle.std.proofs.lemmas.List.{with_items_is}
use Rattle.std.proofs.lemmas.List.Elements.{All-set}
use Rattle.std.specs.Vec.{with_items}
use Rattle.omf_image.specs.inside.Pages.{Paged, IsPage, IsLaid, joined, page_bytes}
use Rattle.omf_image.proofs.Paging.{length-joined, page_inside, page_is, full, paged-replaced, made-replaced, AllBytes}
use Rattle.omf_image.proofs.Paging.{bytes_page, bytes_at}
use Rattle.omf_image.proofs.Laying.{laid-replaced, page_made}
use Rattle.omf_image.proofs.pages.Pages.lay_in_page.Goals as goal

pub index_mut-page-requires : goal.index_mut-page-requires
index_mut-page-requires g c =
    let i = c.self.inside in
    let e : length c.args.self.now.bytes ≡ i.size =
    ap (λ (i : Paged). length i.bytes) (sym c.self.view_is) ∙ length-joined i.size _ c.self.invariant.0 in
    let k =
    page_inside i.size i.pages.items c.args.address c.self.invariant.0
    (omega (arith, e, c.requires.inside, c.requires.some)) in
    omega (arith, i.pages.ok.0, k)

pub invariant_of-self : goal.invariant_of-self
invariant_of-self g c =
    let i = c.self.inside in
    let p = c.index_mut-page.result.now in
    let e : length c.args.self.now.bytes ≡ i.size =
    ap (λ (i : Paged). length i.bytes) (sym c.self.view_is) ∙ length-joined i.size _ c.self.invariant.0 in
    let k =
    page_inside i.size i.pages.items c.args.address c.self.invariant.0
    (omega (arith, e, c.requires.inside, c.requires.some)) in
    let is =
    page_is i.size i.pages.items (c.args.address / 4096) p c.self.invariant.0 k c.index_mut-page.ensures.value in (
      paged-replaced i.size i.pages.items (c.args.address / 4096) c.make.new.page c.self.invariant.0
          (subst IsPage (sym c.in_err-make.ensures.kept) is),
      c.self.invariant.1,
      All-set (λ (q : Vec ℕ g.row.A.Denot). AllBytes q.items) i.pages.items (c.args.address / 4096) c.make.new.page
          (subst AllBytes (sym c.in_err-make.ensures.kept)
          (bytes_at i.pages.items (c.args.address / 4096) p k c.index_mut-page.ensures.value c.self.invariant.2))
          c.self.invariant.2,
    )

pub lay_over-requires : goal.lay_over-requires
lay_over-requires g c =
    let i = c.self.inside in
    let p = c.index_mut-page.result.now in
    let e : length c.args.self.now.bytes ≡ i.size =
    ap (λ (i : Paged). length i.bytes) (sym c.self.view_is) ∙ length-joined i.size _ c.self.invariant.0 in
    let k =
    page_inside i.size i.pages.items c.args.address c.self.invariant.0
    (omega (arith, e, c.requires.inside, c.requires.some)) in
    let is =
    page_is i.size i.pages.items (c.args.address / 4096) p c.self.invariant.0 k c.index_mut-page.ensures.value in
    let n : length c.as_mut_slice.result.now ≡ 4096 =
    ap length (c.as_mut_slice.ensures.value ∙ c.in_ok-make.ensures.made) ∙ full p.items is in
    omega (arith, n, c.requires.one_page)

pub invariant_of-self-2 : goal.invariant_of-self-2
invariant_of-self-2 g c =
    let i = c.self.inside in
    let p = c.index_mut-page.result.now in
    let a = c.args.address in
    let e : length c.args.self.now.bytes ≡ i.size =
    ap (λ (i : Paged). length i.bytes) (sym c.self.view_is) ∙ length-joined i.size _ c.self.invariant.0 in
    let k =
    page_inside i.size i.pages.items a c.self.invariant.0 (omega (arith, e, c.requires.inside, c.requires.some)) in
    let is = page_is i.size i.pages.items (a / 4096) p c.self.invariant.0 k c.index_mut-page.ensures.value in
    let before = c.as_mut_slice.ensures.value in
    let n : length c.lay_over.new.page ≡ 4096 =
    c.lay_over.ensures.laid.sized ∙ ap length (before ∙ c.in_ok-make.ensures.made) ∙ full p.items is in
    let m : length c.make.new.page.items ≡ 4096 = ap length c.in_ok-make.ensures.made ∙ full p.items is in
    let v = with_items_is c.make.new.page c.lay_over.new.page (omega (arith, n, m, c.make.new.page.ok.0)) in
    let bytes =
    bytes_page p.items (bytes_at i.pages.items (a / 4096) p k c.index_mut-page.ensures.value c.self.invariant.2) in (
      paged-replaced i.size i.pages.items (a / 4096) _ c.self.invariant.0 (inr (ap length v ∙ n)),
      c.self.invariant.1,
      All-set (λ (q : Vec ℕ g.row.A.Denot). AllBytes q.items) i.pages.items (a / 4096) _
          (subst AllBytes (sym v)
          (c.lay_over.ensures.bytes (subst AllBytes (sym (before ∙ c.in_ok-make.ensures.made)) bytes)))
          c.self.invariant.2,
    )

pub returns-clause-bytes : goal.returns-clause-bytes
returns-clause-bytes g c =
    let i = c.self.inside in
    let p = c.index_mut-page.result.now in
    let a = c.args.address in
    let bs = c.args.bytes.now in
    let new = with_items c.make.new.page c.lay_over.new.page in
    let e : length c.args.self.now.bytes ≡ i.size =
    ap (λ (i : Paged). length i.bytes) (sym c.self.view_is) ∙ length-joined i.size _ c.self.invariant.0 in
    let k =
    page_inside i.size i.pages.items a c.self.invariant.0 (omega (arith, e, c.requires.inside, c.requires.some)) in
    let is = page_is i.size i.pages.items (a / 4096) p c.self.invariant.0 k c.index_mut-page.ensures.value in
    let before = c.as_mut_slice.ensures.value ∙ c.in_ok-make.ensures.made in
    let n : length c.lay_over.new.page ≡ 4096 = c.lay_over.ensures.laid.sized ∙ ap length before ∙ full p.items is in
    let m : length c.make.new.page.items ≡ 4096 = ap length c.in_ok-make.ensures.made ∙ full p.items is in
    let v : new.items ≡ c.lay_over.new.page =
    with_items_is c.make.new.page c.lay_over.new.page (omega (arith, n, m, c.make.new.page.ok.0)) in
    let laid : IsLaid (record { start = a % 4096; bytes = bs }) (page_bytes p.items) new.items =
    subst (IsLaid (record { start = a % 4096; bytes = bs }) (page_bytes p.items)) (sym v)
    (subst (λ (l : List ℕ). IsLaid (record { start = a % 4096; bytes = bs }) l c.lay_over.new.page) before
    c.lay_over.ensures.laid) in
    subst
    (λ (q : Paged).
    IsLaid (record { start = a; bytes = bs }) q.bytes
    (joined i.size (map (λ (q : Vec ℕ g.row.A.Denot). q.items) (set i.pages.items (a / 4096) new)))) c.self.view_is
    (laid-replaced i.size i.pages.items a bs p new c.self.invariant.0 (omega (arith, e, c.requires.inside))
    c.requires.one_page c.requires.some c.index_mut-page.ensures.value laid)

pub returns-clause-made : goal.returns-clause-made
returns-clause-made g c j =
    let i = c.self.inside in
    let p = c.index_mut-page.result.now in
    let a = c.args.address in
    let e : length c.args.self.now.bytes ≡ i.size =
    ap (λ (i : Paged). length i.bytes) (sym c.self.view_is) ∙ length-joined i.size _ c.self.invariant.0 in
    let k =
    page_inside i.size i.pages.items a c.self.invariant.0 (omega (arith, e, c.requires.inside, c.requires.some)) in
    let is = page_is i.size i.pages.items (a / 4096) p c.self.invariant.0 k c.index_mut-page.ensures.value in
    let before = c.as_mut_slice.ensures.value ∙ c.in_ok-make.ensures.made in
    let n : length c.lay_over.new.page ≡ 4096 = c.lay_over.ensures.laid.sized ∙ ap length before ∙ full p.items is in
    let m : length c.make.new.page.items ≡ 4096 = ap length c.in_ok-make.ensures.made ∙ full p.items is in
    let v = with_items_is c.make.new.page c.lay_over.new.page (omega (arith, n, m, c.make.new.page.ok.0)) in
    made-replaced i.pages.items (a / 4096) j _ k (ap length v ∙ n)
    ∙ ap (λ (i : Paged). cond (eqb j (a / 4096)) true (get_or i.made j false)) c.self.view_is
    ∙ page_made a j c.args.bytes.now (get_or c.args.self.now.made j false) c.requires.some c.requires.one_page
