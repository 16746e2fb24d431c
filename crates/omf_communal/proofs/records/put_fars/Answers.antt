use Rattle.std.proofs.Common.{◌∙◌, ◌++◌, ap, append-nil, arith, map, sym}
use Rattle.std.proofs.lemmas.List.{take_all}
use Rattle.omf_write.specs.Records.{records_bytes}
use Rattle.omf_communal.specs.Records.{far_record}
use Rattle.omf_communal.specs.declared.places.Part.{Part}
use Rattle.omf_communal.specs.inside.Planned.{parts_said, room_said}
use Rattle.omf_communal.proofs.Putting.{put-turn}
use Rattle.omf_communal.proofs.records.put_fars.Goals as goal

pub loop-part-preserved : goal.loop-part-preserved
loop-part-preserved g c =
    put-turn (λ (p : Part). p.length) (far_record (room_said c.args.room)) c.args.parts.now c.loop-part.part-index
    c.part-item.result
    c.args.out.now.items c.loop-part.out.items _ c.loop-part-test.true c.part-item.is c.loop-part.invariant
    c.in_ok-put_far.ensures

pub loop-part-init : goal.loop-part-init
loop-part-init g c = sym (append-nil c.args.out.now.items)

pub returns : goal.returns
returns g c =
    c.loop-part.invariant
    ∙ ap (λ ps. c.args.out.now.items ++ records_bytes (map (far_record (room_said c.args.room)) (parts_said ps)))
    (take_all c.loop-part.part-index c.args.parts.now (omega arith))
