use Rattle.std.proofs.Common.{◌≡◌, ◌++◌, map, take}
use Rattle.omf_communal.specs.inside.Planned.{places_said}
use Rattle.omf_write.specs.Records.{records_bytes}
use Rattle.omf_communal.specs.Records.{place_record}
use Rattle.omf_communal.proofs.records.put_places.Given as goal

abbrev pub invariant-loop-place : goal.invariant-loop-place
invariant-loop-place g l =
    l.out.items
    ≡ l.initial.out.items ++ records_bytes (map (place_record l.fn.local) (places_said (take l.place-index l.places)))
