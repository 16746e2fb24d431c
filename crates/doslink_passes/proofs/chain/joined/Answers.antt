use Rattle.std.proofs.Common.{inl, inr, subst, ◌≡◌, true, false}
use Rattle.doslink_passes.specs.Joined.{have_bytes}
use Rattle.doslink_passes.specs.Sources.{linked_said}
use Rattle.doslink_passes.proofs.Refused.{refused-exit, steps-weaker}
use Rattle.doslink_passes.proofs.chain.joined.Goals as goal

pub returns : goal.returns
returns g c =
    let all = linked_said c.in_ok-all.all in
    steps-weaker c.with_stack.result
    (λ linked is. record {
      all = all;
      communal = c.in_ok-all.ensures;
      filled = subst (λ ms. have_bytes ms ≡ true) c.deref.ensures.value c.in_ok-check_filled.ensures;
      stacked = is;
    })
    (λ none. inr (all, c.in_ok-all.ensures, inr none)) c.with_stack.ensures.stacked

pub returns-in_err-all : goal.returns-in_err-all
returns-in_err-all g c =
    refused-exit _ c.from_residual.result _ c.from_residual.ensures.1 (λ none. inl none) c.in_err-all.ensures

pub returns-in_err-check_filled : goal.returns-in_err-check_filled
returns-in_err-check_filled g c =
    refused-exit _ c.from_residual-in_err-check_filled.result _ c.from_residual-in_err-check_filled.ensures.1
    (λ empty. inr (
      linked_said c.in_ok-all.all,
      c.in_ok-all.ensures,
      inl (subst (λ ms. have_bytes ms ≡ false) c.deref.ensures.value empty),
    ))
    c.in_err-check_filled.ensures
