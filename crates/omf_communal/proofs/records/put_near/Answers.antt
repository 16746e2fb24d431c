use Rattle.std.proofs.Common.{◌+◌, ◌∙◌, ◌++◌, [], ◌∷◌, ap, subst, sym, arith}
use Rattle.omf_record.specs.Canonical.{FitsFrame}
use Rattle.omf_record.specs.Record.{Grpdef, Segdef}
use Rattle.omf_record.specs.View.{view}
use Rattle.omf_communal.specs.inside.Planned.{room_said}
use Rattle.omf_communal.proofs.Bodies.{group_fits, near_fits}
use Rattle.omf_communal.proofs.records.put_near.Goals as goal

pub put_record-requires-clause-fits : goal.put_record-requires-clause-fits
unfolding view
put_record-requires-clause-fits g c =
    let before = room_said c.args.room in
    subst (λ s. FitsFrame (Segdef s)) (sym c.segment_of_length-segment.ensures)
    (near_fits before c.args.part.now.length (omega (arith, c.args.room.names_in)) c.args.part.now.in_segment)

pub put_record-requires-2-clause-fits : goal.put_record-requires-2-clause-fits
unfolding view
put_record-requires-2-clause-fits g c =
    let name = c.args.room.names + 1 in
    let segment = c.args.room.segments + 1 in
    subst (λ ns. FitsFrame (Grpdef name ns))
    (sym (c.in_ok-push.ensures.items ∙ ap (λ ns. ns ++ segment ∷ []) c.new-segments.ensures.items))
    (group_fits name segment (omega (arith, c.args.room.names_in)) (omega (arith, c.args.room.segments_in)))
