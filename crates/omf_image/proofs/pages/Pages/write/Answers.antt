use Rattle.std.proofs.Common.{◌≡◌, ◌∙◌, ℕ, ◌/◌, ◌%◌, sym, ap, length, get_or, set, arith, inr, List, true, false, cond}
use Rattle.std.proofs.Common.{eqb, Vec, ◌<◌, subst}
use Rattle.std.proofs.lemmas.List.{length-set, with_items_is}
use Rattle.std.proofs.lemmas.List.Elements.{All-set}
use Rattle.omf_image.specs.inside.Pages.{Paged}
use Rattle.omf_image.proofs.Paging.{length-joined, page_inside, present, page_bytes-present, paged-replaced}
use Rattle.omf_image.proofs.Paging.{joined-replaced, made-replaced, made_kept, AllBytes, bytes_at}
use Rattle.omf_image.proofs.pages.Pages.write.Goals as goal

pub index_mut-page-requires : goal.index_mut-page-requires
index_mut-page-requires g c =
    let i = c.self.inside in
    let e : length c.args.self.now.bytes ≡ i.size =
    ap (λ (i : Paged). length i.bytes) (sym c.self.view_is) ∙ length-joined i.size _ c.self.invariant.0 in
    let k = page_inside i.size i.pages.items c.args.address c.self.invariant.0 (omega (arith, e, c.requires.inside)) in
    omega (arith, i.pages.ok.0, k)

pub bounds-window-address : goal.bounds-window-address
bounds-window-address g c =
    let i = c.self.inside in
    let p = c.index_mut-page.result.now in
    let a = c.args.address in
    let e : length c.args.self.now.bytes ≡ i.size =
    ap (λ (i : Paged). length i.bytes) (sym c.self.view_is) ∙ length-joined i.size _ c.self.invariant.0 in
    let k = page_inside i.size i.pages.items a c.self.invariant.0 (omega (arith, e, c.requires.inside)) in
    let n =
    present i.size i.pages.items (a / 4096) p c.self.invariant.0 k c.index_mut-page.ensures.value
    (ap (λ (i : Paged). get_or i.made (a / 4096) false) c.self.view_is ∙ c.requires.made) in
    omega (arith, ap length c.as_mut_slice-window.ensures.value, n)

pub invariant_of-self : goal.invariant_of-self
invariant_of-self g c =
    let i = c.self.inside in
    let p = c.index_mut-page.result.now in
    let a = c.args.address in
    let e : length c.args.self.now.bytes ≡ i.size =
    ap (λ (i : Paged). length i.bytes) (sym c.self.view_is) ∙ length-joined i.size _ c.self.invariant.0 in
    let k = page_inside i.size i.pages.items a c.self.invariant.0 (omega (arith, e, c.requires.inside)) in
    let n =
    present i.size i.pages.items (a / 4096) p c.self.invariant.0 k c.index_mut-page.ensures.value
    (ap (λ (i : Paged). get_or i.made (a / 4096) false) c.self.view_is ∙ c.requires.made) in
    let w = c.as_mut_slice-window.result.now in
    let same = c.as_mut_slice-window.ensures.value in
    let v =
    with_items_is p (set w (a % 4096) c.args.byte)
    (omega (arith, length-set w (a % 4096) c.args.byte, ap length same, p.ok.0))
    ∙ ap (λ (l : List ℕ). set l (a % 4096) c.args.byte) same in (
      paged-replaced i.size i.pages.items (a / 4096) _ c.self.invariant.0
          (inr (ap length v ∙ length-set p.items (a % 4096) c.args.byte ∙ n)),
      c.self.invariant.1,
      All-set (λ (q : Vec ℕ g.row.A.Denot). AllBytes q.items) i.pages.items (a / 4096) _
          (subst AllBytes (sym v)
          (All-set (λ (b : ℕ). b < 256) p.items (a % 4096) c.args.byte (omega arith)
          (bytes_at i.pages.items (a / 4096) p k c.index_mut-page.ensures.value c.self.invariant.2)))
          c.self.invariant.2,
    )

pub returns-clause-bytes : goal.returns-clause-bytes
returns-clause-bytes g c =
    let i = c.self.inside in
    let p = c.index_mut-page.result.now in
    let a = c.args.address in
    let e : length c.args.self.now.bytes ≡ i.size =
    ap (λ (i : Paged). length i.bytes) (sym c.self.view_is) ∙ length-joined i.size _ c.self.invariant.0 in
    let k = page_inside i.size i.pages.items a c.self.invariant.0 (omega (arith, e, c.requires.inside)) in
    let n =
    present i.size i.pages.items (a / 4096) p c.self.invariant.0 k c.index_mut-page.ensures.value
    (ap (λ (i : Paged). get_or i.made (a / 4096) false) c.self.view_is ∙ c.requires.made) in
    let w = c.as_mut_slice-window.result.now in
    let same = c.as_mut_slice-window.ensures.value in
    let v =
    with_items_is p (set w (a % 4096) c.args.byte)
    (omega (arith, length-set w (a % 4096) c.args.byte, ap length same, p.ok.0))
    ∙ ap (λ (l : List ℕ). set l (a % 4096) c.args.byte) same in
    joined-replaced i.size i.pages.items a c.args.byte p _ c.self.invariant.0 (omega (arith, e, c.requires.inside))
    c.index_mut-page.ensures.value
    (v ∙ ap (λ (l : List ℕ). set l (a % 4096) c.args.byte)
    (sym (page_bytes-present p.items (λ z. omega (arith, n, z)))))
    ∙ ap (λ (i : Paged). set i.bytes a c.args.byte) c.self.view_is

pub returns-clause-made : goal.returns-clause-made
returns-clause-made g c j =
    let i = c.self.inside in
    let p = c.index_mut-page.result.now in
    let a = c.args.address in
    let e : length c.args.self.now.bytes ≡ i.size =
    ap (λ (i : Paged). length i.bytes) (sym c.self.view_is) ∙ length-joined i.size _ c.self.invariant.0 in
    let k = page_inside i.size i.pages.items a c.self.invariant.0 (omega (arith, e, c.requires.inside)) in
    let m = ap (λ (i : Paged). get_or i.made (a / 4096) false) c.self.view_is ∙ c.requires.made in
    let n = present i.size i.pages.items (a / 4096) p c.self.invariant.0 k c.index_mut-page.ensures.value m in
    let w = c.as_mut_slice-window.result.now in
    let same = c.as_mut_slice-window.ensures.value in
    let v =
    with_items_is p (set w (a % 4096) c.args.byte)
    (omega (arith, length-set w (a % 4096) c.args.byte, ap length same, p.ok.0))
    ∙ ap (λ (l : List ℕ). set l (a % 4096) c.args.byte) same in
    made-replaced i.pages.items (a / 4096) j _ k (ap length v ∙ length-set p.items (a % 4096) c.args.byte ∙ n)
    ∙ ap (λ (i : Paged). cond (eqb j (a / 4096)) true (get_or i.made j false)) c.self.view_is
    ∙ made_kept (get_or c.args.self.now.made j false) j (a / 4096)
    (λ z. ap (λ (q : ℕ). get_or c.args.self.now.made q false) z ∙ c.requires.made)
