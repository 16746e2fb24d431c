use Rattle.std.proofs.Common.{subst, sym}
use Rattle.omf_record.specs.Canonical.{FitsFrame}
use Rattle.omf_record.specs.Record.{Ledata}
use Rattle.omf_record.specs.View.{view}
use Rattle.omf_order.specs.Records.{null_data}
use Rattle.omf_order.proofs.Bodies.{nulls_fit}
use Rattle.omf_order.proofs.records.put_null_bytes.Goals as goal

pub put_record-requires-clause-fits : goal.put_record-requires-clause-fits
unfolding view
put_record-requires-clause-fits g c =
    subst (λ n. FitsFrame (Ledata n 0 null_data)) (sym c.segment_index.ensures) (nulls_fit c.args.place c.requires)
