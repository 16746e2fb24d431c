use Rattle.omf_record.specs.View.{view}
use Rattle.omf_order.proofs.Bodies.{group_fits}
use Rattle.omf_order.proofs.records.put_group.Goals as goal

pub put_record-requires-clause-fits : goal.put_record-requires-clause-fits
unfolding view
put_record-requires-clause-fits g c = group_fits c.args.segments.items c.requires.few c.requires.small
