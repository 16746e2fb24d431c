use Rattle.std.proofs.Common.{◌≡◌, ◌∙◌, ◌+◌, ℕ, length, ap, arith, Vec}
use Rattle.std.proofs.lemmas.List.{length_push}
use Rattle.std.proofs.lemmas.List.Elements.{All-push, All-same, All-weaker}
use Rattle.omf_image.proofs.Paging.{AllBytes, blank_paged, blank_bytes, blank_made}
use Rattle.omf_image.proofs.pages.Pages.new.Goals as goal

pub loop-init : goal.loop-init
loop-init g c = record {
  count = ap length c.new-pages.ensures.items;
  empty = λ k d h. absurd (omega (arith, h, ap length c.new-pages.ensures.items));
}

pub loop-preserved : goal.loop-preserved
loop-preserved g c =
    let all = c.loop.pages.items in
    let page = c.new.result in
    let pushed = c.in_ok-push.ensures.items in
    record {
      count = ap length pushed ∙ length_push all page ∙ ap (λ (n : ℕ). n + 1) c.loop.invariant.count;
      empty =
          All-same (λ (q : Vec ℕ g.row.A.Denot). length q.items ≡ 0) _ _ pushed
          (All-push (λ (q : Vec ℕ g.row.A.Denot). length q.items ≡ 0) all page c.loop.invariant.empty
          (ap length c.new.ensures.items));
    }

pub invariant_of-result : goal.invariant_of-result
invariant_of-result g c = (
  blank_paged c.args.size c.loop.pages.items c.requires (omega (arith, c.loop.invariant.count, c.loop-test.false))
      c.loop.invariant.empty,
  c.in_ok-zeros.ensures.items_if_clones_equal (λ y h. h),
  All-weaker (λ (q : Vec ℕ g.row.A.Denot). length q.items ≡ 0) (λ (q : Vec ℕ g.row.A.Denot). AllBytes q.items)
      (λ q z k d l. absurd (omega (arith, l, z))) c.loop.pages.items c.loop.invariant.empty,
)

pub returns : goal.returns
returns g c =
    let paged =
    blank_paged c.args.size c.loop.pages.items c.requires (omega (arith, c.loop.invariant.count, c.loop-test.false))
    c.loop.invariant.empty in
    record {
      bytes = blank_bytes c.args.size c.loop.pages.items paged c.loop.invariant.empty;
      made = λ k. blank_made c.loop.pages.items k c.loop.invariant.empty;
    }
