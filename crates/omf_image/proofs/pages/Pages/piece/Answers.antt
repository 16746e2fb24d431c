use Rattle.std.proofs.Common.{◌≡◌, ◌∙◌, ℕ, ◌-◌, ◌/◌, ◌%◌, ◌⊎◌, sym, ap, length, take, drop, arith, vec_len}
use Rattle.std.proofs.lemmas.Bool.{eqb-true, eqb-false}
use Rattle.std.proofs.lemmas.List.{length-take, length-drop, length-replicate}
use Rattle.omf_image.specs.inside.Pages.{Paged}
use Rattle.omf_image.proofs.Paging.{length-joined, page_inside, page_is, page_bytes-present, page_bytes-absent}
use Rattle.omf_image.proofs.Paging.{piece_is}
use Rattle.omf_image.proofs.pages.Pages.piece.Goals as goal

pub overflow_sub-self-inside : goal.overflow_sub-self-inside
overflow_sub-self-inside g c =
    let i = c.self.inside in
    let e : length c.args.self.now.bytes ≡ i.size =
    ap (λ (i : Paged). length i.bytes) (sym c.self.view_is) ∙ length-joined i.size _ c.self.invariant.0 in
    omega (arith, e, c.requires)

pub index-page-requires : goal.index-page-requires
index-page-requires g c =
    let i = c.self.inside in
    let e : length c.args.self.now.bytes ≡ i.size =
    ap (λ (i : Paged). length i.bytes) (sym c.self.view_is) ∙ length-joined i.size _ c.self.invariant.0 in
    let k = page_inside i.size i.pages.items c.args.address c.self.invariant.0 (omega (arith, e, c.requires)) in
    omega (arith, i.pages.ok.0, k)

pub slice_bounds-result-end-else-is_empty : goal.slice_bounds-result-end-else-is_empty
slice_bounds-result-end-else-is_empty g c =
    let i = c.self.inside in
    let p = c.index-page.result.now in
    let e : length c.args.self.now.bytes ≡ i.size =
    ap (λ (i : Paged). length i.bytes) (sym c.self.view_is) ∙ length-joined i.size _ c.self.invariant.0 in
    let k = page_inside i.size i.pages.items c.args.address c.self.invariant.0 (omega (arith, e, c.requires)) in
    let is : (length p.items ≡ 0) ⊎ (length p.items ≡ 4096) =
    page_is i.size i.pages.items (c.args.address / 4096) p c.self.invariant.0 k c.index-page.ensures in
    let some = eqb-false (vec_len p) 0 (sym c.is_empty.ensures ∙ c.if-is_empty.false) in
    let n : length c.deref-else-is_empty.result.now ≡ length p.items = ap length c.deref-else-is_empty.ensures.value in
    omega (arith, p.ok.0, is, some, n)

pub returns-then-is_empty-clause-front : goal.returns-then-is_empty-clause-front
returns-then-is_empty-clause-front g c =
    let i = c.self.inside in
    let p = c.index-page.result.now in
    let a = c.args.address in
    let e : length c.args.self.now.bytes ≡ i.size =
    ap (λ (i : Paged). length i.bytes) (sym c.self.view_is) ∙ length-joined i.size _ c.self.invariant.0 in
    let none : length p.items ≡ 0 =
    omega (arith, p.ok.0, eqb-true (vec_len p) 0 (sym c.is_empty.ensures ∙ c.if-is_empty.true)) in
    let same = c.deref.ensures.value ∙ c.self.invariant.1 ∙ sym (page_bytes-absent p.items none) in
    let n = c.min-end.result - a % 4096 in
    piece_is i.size i.pages.items a n p c.deref.result.now c.self.invariant.0 (omega (arith, e, c.requires))
    c.index-page.ensures same (omega (arith, c.min-end.ensures)) (omega (arith, c.min-end.ensures, e, c.requires))
    ∙ ap (λ (i : Paged). take (length (take n (drop (a % 4096) c.deref.result.now))) (drop a i.bytes)) c.self.view_is

pub returns-then-is_empty-clause-some : goal.returns-then-is_empty-clause-some
returns-then-is_empty-clause-some g c =
    let i = c.self.inside in
    let e : length c.args.self.now.bytes ≡ i.size =
    ap (λ (i : Paged). length i.bytes) (sym c.self.view_is) ∙ length-joined i.size _ c.self.invariant.0 in
    let n : length c.deref.result.now ≡ 4096 =
    ap length (c.deref.ensures.value ∙ c.self.invariant.1) ∙ length-replicate {A = ℕ} 4096 0 in
    simp (length-take, length-drop) (omega (arith, c.min-end.ensures, e, n, c.requires))

pub returns-else-is_empty-clause-front : goal.returns-else-is_empty-clause-front
returns-else-is_empty-clause-front g c =
    let i = c.self.inside in
    let p = c.index-page.result.now in
    let a = c.args.address in
    let e : length c.args.self.now.bytes ≡ i.size =
    ap (λ (i : Paged). length i.bytes) (sym c.self.view_is) ∙ length-joined i.size _ c.self.invariant.0 in
    let some = eqb-false (vec_len p) 0 (sym c.is_empty.ensures ∙ c.if-is_empty.false) in
    let same =
    c.deref-else-is_empty.ensures.value ∙ sym (page_bytes-present p.items (λ z. some (omega (arith, p.ok.0, z)))) in
    let n = c.min-end.result - a % 4096 in
    piece_is i.size i.pages.items a n p c.deref-else-is_empty.result.now c.self.invariant.0
    (omega (arith, e, c.requires)) c.index-page.ensures same (omega (arith, c.min-end.ensures))
    (omega (arith, c.min-end.ensures, e, c.requires))
    ∙ ap (λ (i : Paged). take (length (take n (drop (a % 4096) c.deref-else-is_empty.result.now))) (drop a i.bytes))
    c.self.view_is

pub returns-else-is_empty-clause-some : goal.returns-else-is_empty-clause-some
returns-else-is_empty-clause-some g c =
    let i = c.self.inside in
    let p = c.index-page.result.now in
    let e : length c.args.self.now.bytes ≡ i.size =
    ap (λ (i : Paged). length i.bytes) (sym c.self.view_is) ∙ length-joined i.size _ c.self.invariant.0 in
    let k = page_inside i.size i.pages.items c.args.address c.self.invariant.0 (omega (arith, e, c.requires)) in
    let is : (length p.items ≡ 0) ⊎ (length p.items ≡ 4096) =
    page_is i.size i.pages.items (c.args.address / 4096) p c.self.invariant.0 k c.index-page.ensures in
    let some = eqb-false (vec_len p) 0 (sym c.is_empty.ensures ∙ c.if-is_empty.false) in
    let n : length c.deref-else-is_empty.result.now ≡ length p.items = ap length c.deref-else-is_empty.ensures.value in
    simp (length-take, length-drop) (omega (arith, c.min-end.ensures, e, n, p.ok.0, is, some, c.requires))
