use Rattle.std.proofs.Common.{subst, sym}
use Rattle.omf_record.specs.Canonical.{FitsFrame}
use Rattle.omf_record.specs.Record.{Segdef}
use Rattle.omf_record.specs.View.{view}
use Rattle.omf_stack.proofs.Bodies.{part_fits}
use Rattle.omf_stack.proofs.records.put_part_segment.Goals as goal

pub put_record-requires-clause-fits : goal.put_record-requires-clause-fits
unfolding view
put_record-requires-clause-fits g c =
    subst (λ s. FitsFrame (Segdef s)) (sym c.segment_of_length-segment.ensures) (part_fits c.args.bytes c.requires)
