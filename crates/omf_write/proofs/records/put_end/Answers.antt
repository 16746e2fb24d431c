use Rattle.omf_record.specs.View.{view}
use Rattle.omf_write.proofs.Bodies.{end_fits}
use Rattle.omf_write.proofs.records.put_end.Goals as goal

pub put_record-requires-clause-fits : goal.put_record-requires-clause-fits
unfolding view
put_record-requires-clause-fits g c = end_fits
