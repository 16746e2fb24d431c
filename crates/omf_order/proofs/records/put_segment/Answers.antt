use Rattle.std.proofs.Common.{subst, sym}
use Rattle.omf_record.specs.Canonical.{FitsFrame}
use Rattle.omf_record.specs.Record.{Segdef}
use Rattle.omf_record.specs.View.{view}
use Rattle.omf_order.specs.inside.Held.{part_view}
use Rattle.omf_order.proofs.Bodies.{segment_fits}
use Rattle.omf_order.proofs.records.put_segment.Goals as goal

pub put_record-requires-clause-fits : goal.put_record-requires-clause-fits
unfolding view
put_record-requires-clause-fits g c =
    subst (λ s. FitsFrame (Segdef s)) (sym c.definition-segment.ensures)
    (segment_fits c.args.place c.args.has_nulls (part_view c.args.part.now) c.requires)
