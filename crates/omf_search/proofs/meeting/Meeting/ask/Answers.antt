use Rattle.std.proofs.Common.{◌≡◌, ◌-◌, suc, ◌∙◌, ap, ap₂, arith, option_copied, subst, sym}
use Rattle.omf_search.specs.Taken.{IsMet}
use Rattle.omf_search.specs.inside.Asking.{once, then_ask}
use Rattle.omf_search.specs.Wanted.{Met}
use Rattle.omf_search.proofs.MetSteps.{asked-whole, unroll}
use Rattle.omf_search.proofs.meeting.Meeting.ask.Goals as goal

pub loop-next-init : goal.loop-next-init
loop-next-init g c = λ s is.
    let names = c.args.names in
    let o = once names s c.args.name.now in
    let first = c.in_ok-next.ensures s is in (
      o.0,
      first.0,
      ap₂ (λ n x. then_ask names n (o.0, x)) (c.len-left.ensures ∙ is.count) first.1
          ∙ asked-whole names s c.args.name.now,
    )

pub returns-then-left-eq0 : goal.returns-then-left-eq0
returns-then-left-eq0 g c = λ s is.
    let names = c.args.names in
    let inv = c.loop-next.invariant s is in
    subst (λ (t : Met). IsMet names t c.loop-next.self)
    (ap₂ (λ n x. then_ask names n (inv.0, option_copied x)) (sym c.if-left-eq0.true) (sym c.in-Some.is) ∙ inv.2)
    inv.1

pub loop-next-preserved : goal.loop-next-preserved
loop-next-preserved g c = λ s is.
    let names = c.args.names in
    let inv = c.loop-next.invariant s is in
    let t = inv.0 in
    let o = once names t c.in-Some.name.now in
    let step = c.in_ok-next-2.ensures t inv.1 in
    let left : suc (c.loop-next.left - 1) ≡ c.loop-next.left = omega (arith, c.if-left-eq0.false) in (
      o.0,
      step.0,
      ap (λ x. then_ask names (c.loop-next.left - 1) (o.0, x)) step.1
          ∙ sym (unroll names (c.loop-next.left - 1) t c.in-Some.name.now)
          ∙ ap₂ (λ n x. then_ask names n (t, option_copied x)) left (sym c.in-Some.is) ∙ inv.2,
    )

pub returns : goal.returns
returns g c = λ s is.
    let names = c.args.names in
    let inv = c.loop-next.invariant s is in
    subst (λ (t : Met). IsMet names t c.loop-next.self)
    (ap (λ x. then_ask names c.loop-next.left (inv.0, option_copied x)) (sym c.in_default.is) ∙ inv.2) inv.1
