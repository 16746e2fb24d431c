use Rattle.std.proofs.Common.{◌∙◌, ◌&&◌, ℕ, Bool, List, ap, arith, get_or, map, not, sym}
use Rattle.std.proofs.lemmas.List.{get_or_default, take_all}
use Rattle.std.specs.Prelude.{find}
use Rattle.omf_module.specs.Faults.{is_absolute}
use Rattle.omf_module.specs.Module.{Segment}
use Rattle.omf_module.specs.Seen.{segment_seen}
use Rattle.omf_stack.proofs.Classes.{blank}
use Rattle.omf_stack.proofs.Lists.{both, find_here, find_kept, not-one, not-other}
use Rattle.omf_stack.proofs.finding.opening.Goals as goal
use Rattle.omf_stack.proofs.finding.opening.Goals.{else-is_placed-via-then-is_placed+else-contains}
use Rattle.omf_stack.proofs.finding.opening.Goals.{else-is_placed-via-else-is_placed}

abbrev test : (List ℕ → Bool) → Segment → Bool
test has s = not (is_absolute s.standing) && has s.class

pub returns-then-contains : goal.returns-then-contains
returns-then-contains g c = λ has told.
    let ss = c.args.segments.now in
    let i = c.loop-segment.segment-index in
    let x = get_or ss i blank in
    sym
    (find_here segment_seen (test has) ss i x c.loop-segment-test.true
    (get_or_default ss i blank x c.loop-segment-test.true) (c.loop-segment.invariant has told)
    (both (not (is_absolute x.standing)) (has x.class.now) (sym c.is_placed.ensures ∙ c.if-is_placed.true)
    (sym (told x.class) ∙ sym c.contains.ensures ∙ c.if-contains.true)))

pub loop-segment-preserved : goal.loop-segment-preserved
loop-segment-preserved g c = λ has told.
    let ss = c.args.segments.now in
    let i = c.loop-segment.segment-index in
    let x = get_or ss i blank in
    let kept = find_kept segment_seen (test has) ss i x c.loop-segment-test.true
    (get_or_default ss i blank x c.loop-segment-test.true) (c.loop-segment.invariant has told) in
    elim c.else-is_placed.branch [
      | else-is_placed-via-then-is_placed+else-contains w ↦ kept
          (not-other (not (is_absolute x.standing)) (has x.class.now)
          (sym (told x.class) ∙ sym w.contains.ensures ∙ w.if-contains.false))
      | else-is_placed-via-else-is_placed w ↦ kept
          (not-one (not (is_absolute x.standing)) (has x.class.now)
          (sym c.is_placed.ensures ∙ w.if-is_placed.false))
    ]

pub returns : goal.returns
returns g c = λ has told.
    sym
    (ap (λ ss. find (test has) (map segment_seen ss))
    (sym (take_all c.loop-segment.segment-index c.args.segments.now (omega arith)))
    ∙ c.loop-segment.invariant has told)
