use Rattle.std.proofs.Common.{◌≡◌, ◌∙◌, ◌+◌, ◌-◌, ◌<◌, ℕ, length, get_or, set, sym, ap, arith, subst, inl, inr}
use Rattle.std.proofs.lemmas.Bool.{cases_eq}
use Rattle.std.proofs.lemmas.List.{length-set, get_or-set_same, get_or-set_other}
use Rattle.omf_image.specs.inside.Index.{Chain}
use Rattle.omf_image.proofs.Chains.{from, chain_more, rises_set, read}
use Rattle.omf_image.proofs.index.linked.Goals as goal

pub loop-i-preserved : goal.loop-i-preserved
loop-i-preserved g c =
    let inv = c.loop-i.invariant in
    let places = c.args.places.now in
    let heads = c.loop-i.heads.items in
    let nexts = c.loop-i.nexts.items in
    let i = c.loop-i.i in
    let j = i - 1 in
    let some = c.loop-i-test.true in
    let p = c.from-place.result in
    let e : i ≡ j + 1 = omega (arith, some) in
    let at : get_or places j 0 ≡ p = sym c.from-place.ensures in
    let low = c.requires.end j 0 (omega (arith, some, inv.inside)) in
    let inside : p < length heads = omega (arith, at, low, inv.heads) in
    let v : c.index.result.now ≡ get_or heads p 0 = read heads p c.index.result.now c.index.ensures inside in
    let up = inv.above p (omega (arith, inside, inv.heads)) in
    record {
      inside = omega (arith, inv.inside);
      heads = length-set heads p j ∙ inv.heads;
      nexts = length-set nexts j c.index.result.now ∙ inv.nexts;
      rises = rises_set nexts j c.index.result.now inv.rises (omega (arith, v, up, some));
      above = λ o h. elim (cases_eq o p) [
        | inl q ↦
            let s : get_or (set heads p j) o 0 ≡ j =
            ap (λ (k : ℕ). get_or (set heads p j) k 0) q ∙ get_or-set_same heads p j 0 inside in omega (arith, s)
        | inr q ↦
            let s : get_or (set heads p j) o 0 ≡ get_or heads o 0 = get_or-set_other heads p o j 0 q in
            let u = inv.above o h in omega (arith, s, u)
      ];
      chains = λ o h. subst (λ (k : ℕ). Chain (set nexts j k) (get_or (set heads p j) o 0) (from o places j)) (sym v)
          (chain_more places nexts heads i j p o e inv.inside inv.nexts at inside (omega (arith, h, inv.heads))
          inv.rises (inv.above o h) (inv.chains o h));
    }
