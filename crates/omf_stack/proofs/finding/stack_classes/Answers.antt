use Rattle.std.proofs.Common.{◌∙◌, ap, arith, get_or, map, sym}
use Rattle.std.proofs.lemmas.List.{get_or_default, take_all}
use Rattle.std.specs.List.{list_any}
use Rattle.indexmap.specs.IndexSet.{contains}
use Rattle.omf_module.specs.Seen.{segment_seen}
use Rattle.omf_stack.specs.inside.Classes.{same_name}
use Rattle.omf_stack.proofs.Classes.{blank, class-in, class-out, in_class}
use Rattle.omf_stack.proofs.finding.stack_classes.Goals as goal
use Rattle.omf_stack.proofs.finding.stack_classes.Goals.{then-is_stack+in_ok-insert, else-is_stack}

pub loop-segment-preserved : goal.loop-segment-preserved
loop-segment-preserved g c = λ q.
    let i = c.loop-segment.segment-index in
    let ss = c.args.segments.now in
    let x = get_or ss i blank in
    let is = get_or_default ss i blank x c.loop-segment-test.true in
    elim c.if-is_stack.branch [
      | then-is_stack+in_ok-insert w ↦ ap (λ m. contains same_name m q) w.classes-is
          ∙ class-in q.now ss i x (contains same_name c.loop-segment.classes q) _
          c.loop-segment-test.true is (c.loop-segment.invariant q)
          (sym c.is_stack.ensures ∙ w.if-is_stack.true) (w.in_ok-insert.ensures.updates.0 q)
      | else-is_stack w ↦ ap (λ m. contains same_name m q) w.classes-is
          ∙ class-out q.now ss i x (contains same_name c.loop-segment.classes q)
          (contains same_name c.loop-segment.classes q) c.loop-segment-test.true is
          (c.loop-segment.invariant q) (sym c.is_stack.ensures ∙ w.if-is_stack.false)
    ]

pub returns : goal.returns
returns g c = λ q.
    c.loop-segment.invariant q
    ∙ ap (λ ss. list_any (in_class q.now) (map segment_seen ss))
    (take_all c.loop-segment.segment-index c.args.segments.now (omega arith))
