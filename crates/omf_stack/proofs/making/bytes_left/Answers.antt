use Rattle.std.proofs.Common.{◌≡◌, ◌∙◌, ◌+◌, ◌-◌, ◌<◌, ℕ, Bool, true, false, cond, None}
use Rattle.std.proofs.Common.{Option, Some, arith, get_or, map, refl}
use Rattle.std.proofs.Common.{nat_lt, sym, ap}
use Rattle.std.proofs.lemmas.Bool.{ltb-true, ltb-false}
use Rattle.std.proofs.lemmas.List.{get_or_default, take_all}
use Rattle.omf_module.specs.Seen.{segment_seen}
use Rattle.omf_stack.specs.Stack.{stack_length}
use Rattle.omf_stack.proofs.Classes.{blank}
use Rattle.omf_stack.proofs.Lengths.{length-front, length-more, own-other, own-part}
use Rattle.omf_stack.proofs.making.bytes_left.Goals as goal
use Rattle.omf_stack.proofs.making.bytes_left.Goals.{then-is_of+in_ok-left, else-is_of}

more : (asked length : ℕ) (r : Option ℕ) → asked < length → r ≡ None
    → r ≡ cond (nat_lt asked length) None (Some (asked - length))
more asked length r h e = e ∙ go (nat_lt asked length) refl
  where
    go : (b : Bool) → nat_lt asked length ≡ b → None ≡ cond b None (Some (asked - length))
    go true is = refl
    go false is = absurd (let other = ltb-false asked length is in omega (arith, h, other))

pub returns-in_err-left : goal.returns-in_err-left
returns-in_err-left c =
    let ss = c.args.segments.now in
    let i = c.loop-segment.segment-index in
    let x = get_or ss i blank in
    let stack = segment_seen c.args.stack.now in
    let was = c.loop-segment.invariant in
    let longer = length-more segment_seen stack ss i x c.loop-segment-test.true
    (get_or_default ss i blank x c.loop-segment-test.true) in
    let own = own-part stack (segment_seen x) (sym c.is_of.ensures ∙ c.if-is_of.true) in
    let front = length-front segment_seen stack ss (i + 1) in
    let more-left = c.in_err-left.ensures in
    more c.args.asked (stack_length stack (map segment_seen ss)) _ (omega (arith, was, longer, own, front, more-left))
    c.from_residual.ensures

pub loop-segment-preserved : goal.loop-segment-preserved
loop-segment-preserved c =
    let ss = c.args.segments.now in
    let i = c.loop-segment.segment-index in
    let x = get_or ss i blank in
    let stack = segment_seen c.args.stack.now in
    let was = c.loop-segment.invariant in
    let longer = length-more segment_seen stack ss i x c.loop-segment-test.true
    (get_or_default ss i blank x c.loop-segment-test.true) in
    elim c.if-is_of.branch [
      | then-is_of+in_ok-left w ↦
          let own = own-part stack (segment_seen x) (sym c.is_of.ensures ∙ w.if-is_of.true) in
          let same = w.left-is in
          let less = w.in_ok-left.ensures in
          omega (arith, was, longer, own, same, less)
      | else-is_of w ↦
          let own = own-other stack (segment_seen x) (sym c.is_of.ensures ∙ w.if-is_of.false) in
          let same = w.left-is in
          omega (arith, was, longer, own, same)
    ]

no-more : (asked length left : ℕ) → left + length ≡ asked
    → Some left ≡ cond (nat_lt asked length) None (Some (asked - length))
no-more asked length left h = go (nat_lt asked length) refl
  where
    go : (b : Bool) → nat_lt asked length ≡ b → Some left ≡ cond b None (Some (asked - length))
    go true is = absurd (let other = ltb-true asked length is in omega (arith, h, other))
    go false is = let e : left ≡ asked - length = omega (arith, h) in ap (λ n. Some n) e

pub returns : goal.returns
returns c =
    let stack = segment_seen c.args.stack.now in
    no-more c.args.asked (stack_length stack (map segment_seen c.args.segments.now)) c.loop-segment.left
    (ap (λ ss. c.loop-segment.left + stack_length stack (map segment_seen ss))
    (sym (take_all c.loop-segment.segment-index c.args.segments.now (omega arith)))
    ∙ c.loop-segment.invariant)
