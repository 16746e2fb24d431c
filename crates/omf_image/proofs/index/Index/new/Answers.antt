use Rattle.std.proofs.Common.{◌≡◌, ◌∙◌, ◌+◌, ◌++◌, ◌<◌, ◌≤◌, ℕ, List, length, get_or, sym, ap, arith, subst}
use Rattle.omf_image.specs.Records.{hits}
use Rattle.omf_image.specs.inside.Index.{Chain, hits_before}
use Rattle.omf_image.proofs.Chains.{before_more, none_past, read, starts_more}
use Rattle.omf_image.proofs.index.Index.new.Goals as goal

pub loop-place-preserved : goal.loop-place-preserved
loop-place-preserved g c =
    let inv = c.loop-place.invariant in
    let places = c.args.places.now in
    let p = c.loop-place.place in
    let linked = c.in_ok-heads.ensures in
    let heads = c.in_ok-heads.heads.items in
    let nexts = c.in_ok-heads.nexts.items in
    let below = c.loop-place-test.true in
    let head : c.index.result.now ≡ get_or heads p 0 =
    read heads p c.index.result.now c.index.ensures (omega (arith, below, linked.count)) in
    let chain : Chain c.deref.result.now c.index.result.now (hits p places) =
    subst (λ (l : List ℕ). Chain l c.index.result.now (hits p places)) (sym c.deref.ensures.value)
    (subst (λ (k : ℕ). Chain nexts k (hits p places)) (sym head) (linked.chains p below)) in
    let len : c.len.result ≡ length c.loop-place.positions.items = search Rattle.std.proofs.Common.rules in
    record {
      count = search Rattle.std.proofs.Common.rules;
      starts = λ o h. ap (λ (l : List ℕ). get_or l o 0) c.in_ok-push.ensures.items
          ∙ starts_more (λ k. length (hits_before places k)) c.loop-place.starts.items p c.len.result inv.count
          (len ∙ ap length inv.positions) inv.starts o h;
      positions =
          c.in_ok-push_chain.ensures (hits p places) chain ∙ ap (λ (l : List ℕ). l ++ hits p places) inv.positions
          ∙ sym (before_more places p);
    }

pub returns : goal.returns
returns g c =
    let inv = c.loop-place.invariant in
    let places = c.args.places.now in
    let p = c.loop-place.place in
    let len : c.len-2.result ≡ length c.loop-place.positions.items = search Rattle.std.proofs.Common.rules in
    let count : length c.push-2.new.self.items ≡ p + 1 = search Rattle.std.proofs.Common.rules in
    record {
      starts = λ o h. ap (λ (l : List ℕ). get_or l o 0) c.in_ok-push-2.ensures.items
          ∙ starts_more (λ k. length (hits_before places k)) c.loop-place.starts.items p c.len-2.result inv.count
          (len ∙ ap length inv.positions) inv.starts o (omega (arith, count, h));
      positions = λ o h. let e : p ≡ o = omega (arith, count, h) in inv.positions ∙ ap (hits_before places) e;
      past =
          λ o h.
          none_past places c.end_of-end.result o c.end_of-end.ensures.above
          (omega (arith, count, h, c.loop-place-test.false));
    }
