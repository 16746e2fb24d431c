use Rattle.std.proofs.Common.{subst, sym, arith}
use Rattle.omf_record.specs.Canonical.{FitsFrame}
use Rattle.omf_record.specs.Record.{Segdef}
use Rattle.omf_record.specs.View.{view}
use Rattle.omf_communal.specs.inside.Planned.{room_said}
use Rattle.omf_communal.proofs.Bodies.{far_fits}
use Rattle.omf_communal.proofs.records.put_far.Goals as goal

pub put_record-requires-clause-fits : goal.put_record-requires-clause-fits
unfolding view
put_record-requires-clause-fits g c =
    let before = room_said c.args.room in
    subst (λ s. FitsFrame (Segdef s)) (sym c.segment_of_length-segment.ensures)
    (far_fits before c.args.part.now.length (omega (arith, c.args.room.names_in)) c.args.part.now.in_segment)
