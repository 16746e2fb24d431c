use Rattle.std.proofs.Common.{fold, sym, ap, ◌∙◌}
use Rattle.omf_place.proofs.ClassSpans.{more, passed, taken, none_left}
use Rattle.omf_place.proofs.classes.class_span.Goals.{then-is_of, else-is_of}
use Rattle.omf_place.proofs.classes.class_span.Goals as goal

pub loop-index-preserved : goal.loop-index-preserved
loop-index-preserved c =
    let sites = c.args.sites.now in
    let spans = c.args.spans.now in
    let class = c.args.class.now in
    let i = c.loop-index.index in
    elim c.if-is_of.branch [
      | then-is_of w ↦
          rw w.span-is
          (taken sites spans class c.requires i _ _ c.loop-index.span c.loop-index-test.true
          (sym c.is_of.ensures ∙ w.if-is_of.true) w.widened.result w.widened.ensures
          ∙ c.loop-index.invariant)
      | else-is_of w ↦
          rw w.span-is
          (passed sites spans class i _ c.loop-index.span c.loop-index-test.true
          (sym c.is_of.ensures ∙ w.if-is_of.false)
          ∙ c.loop-index.invariant)
    ]

pub returns : goal.returns
returns c =
    let sites = c.args.sites.now in
    ap (fold (more sites c.args.spans.now c.args.class.now) c.loop-index.span)
    (sym (none_left sites c.args.class.now c.loop-index.index c.loop-index-test.false))
    ∙ c.loop-index.invariant
