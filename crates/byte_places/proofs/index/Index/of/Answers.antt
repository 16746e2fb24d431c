use Rattle.std.proofs.Common.{take_at, drop, length, ◌∙◌, sym, subst₂, ap, replicate}
use Rattle.byte_places.specs.Chains.{AreLinked}
use Rattle.byte_places.proofs.Linking.{linked-none}
use Rattle.byte_places.proofs.index.Index.of.Goals as goal

pub link-requires-clause-none : goal.link-requires-clause-none
link-requires-clause-none g c =
    linked-none c.args.image.now c.deref_mut.result.now c.deref_mut-2.result.now
    (c.deref_mut.ensures.value ∙ c.in_ok-first.ensures.items_if_clones_equal (λ y e. e)
    ∙ ap (replicate 65536) c.saturating_sub-places.ensures)
    (c.deref_mut-2.ensures.len ∙ c.in_ok-next.ensures.len ∙ c.saturating_sub-places.ensures)

pub invariant_of-result : goal.invariant_of-result
invariant_of-result g c =
    let first = c.link.new.first in
    let next = c.link.new.next in
    let counts = c.link.new.counts in
    let first-is = take_at first (drop (length first) c.in_ok-first.first.items) c.in_ok-first.first.len
    (c.link.ensures.first_len ∙ sym c.in_ok-first.ensures.len) in
    let next-is = take_at next (drop (length next) c.in_ok-next.next.items) c.in_ok-next.next.len
    (c.link.ensures.next_len ∙ sym (c.in_ok-next.ensures.len ∙ c.saturating_sub-places.ensures)) in
    let counts-is = take_at counts (drop (length counts) c.in_ok-counts.counts.items) c.in_ok-counts.counts.len
    (c.link.auto.counts ∙ c.deref_mut-3.ensures.len) in
    record {
      linked = subst₂ (λ f n. AreLinked c.args.image.now 0 f n) (sym first-is) (sym next-is) c.link.ensures;
      counted = ap length counts-is ∙ c.link.auto.counts ∙ c.deref_mut-3.ensures.len ∙ c.in_ok-counts.ensures.len;
    }
