use Rattle.std.proofs.Common.{◌∙◌, ◌&&◌, Bool, ap, arith, get_or, map, sym}
use Rattle.std.proofs.lemmas.List.{get_or_default, take_all}
use Rattle.std.specs.Prelude.{find}
use Rattle.omf_module.specs.Module.{Segment}
use Rattle.omf_module.specs.Seen.{segment_seen}
use Rattle.omf_stack.specs.Stack.{is_stack, same_class}
use Rattle.omf_stack.proofs.Classes.{blank}
use Rattle.omf_stack.proofs.Lists.{both, find_here, find_kept, not-one, not-other}
use Rattle.omf_stack.proofs.finding.first_of_class.Goals as goal
use Rattle.omf_stack.proofs.finding.first_of_class.Goals.{else-is_stack_part-via-then-is_stack_part+else-eq}
use Rattle.omf_stack.proofs.finding.first_of_class.Goals.{else-is_stack_part-via-else-is_stack_part}

abbrev test : Segment → Segment → Bool
test opening t = is_stack t && same_class opening t

pub returns-then-eq : goal.returns-then-eq
returns-then-eq c =
    let ss = c.args.segments.now in
    let i = c.loop-segment.segment-index in
    let x = get_or ss i blank in
    sym
    (find_here segment_seen (test (segment_seen c.args.opening.now)) ss i x c.loop-segment-test.true
    (get_or_default ss i blank x c.loop-segment-test.true) c.loop-segment.invariant
    (both (is_stack (segment_seen x)) (same_class (segment_seen c.args.opening.now) (segment_seen x))
    (sym c.is_stack_part.ensures ∙ c.if-is_stack_part.true) (sym c.eq.ensures ∙ c.if-eq.true)))

pub loop-segment-preserved : goal.loop-segment-preserved
loop-segment-preserved c =
    let ss = c.args.segments.now in
    let i = c.loop-segment.segment-index in
    let x = get_or ss i blank in
    let a = segment_seen c.args.opening.now in
    let kept = find_kept segment_seen (test a) ss i x c.loop-segment-test.true
    (get_or_default ss i blank x c.loop-segment-test.true) c.loop-segment.invariant in
    elim c.else-is_stack_part.branch [
      | else-is_stack_part-via-then-is_stack_part+else-eq w ↦ kept
          (not-other (is_stack (segment_seen x)) (same_class a (segment_seen x)) (sym w.eq.ensures ∙ w.if-eq.false))
      | else-is_stack_part-via-else-is_stack_part w ↦ kept
          (not-one (is_stack (segment_seen x)) (same_class a (segment_seen x))
          (sym c.is_stack_part.ensures ∙ w.if-is_stack_part.false))
    ]

pub returns : goal.returns
returns c =
    sym
    (ap (λ ss. find (test (segment_seen c.args.opening.now)) (map segment_seen ss))
    (sym (take_all c.loop-segment.segment-index c.args.segments.now (omega arith)))
    ∙ c.loop-segment.invariant)
