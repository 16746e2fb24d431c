use Rattle.std.proofs.Common.{◌≡◌, ◌++◌, map, take}
use Rattle.omf_communal.specs.inside.Planned.{parts_said, room_said}
use Rattle.omf_write.specs.Records.{records_bytes}
use Rattle.omf_communal.specs.Records.{far_record}
use Rattle.omf_communal.proofs.records.put_fars.Given as goal

abbrev pub invariant-loop-part : goal.invariant-loop-part
invariant-loop-part g l =
    l.out.items
    ≡ l.initial.out.items
    ++ records_bytes (map (far_record (room_said l.fn.room)) (parts_said (take l.part-index l.parts)))
