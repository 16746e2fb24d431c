use Rattle.std.proofs.Common.{◌≡◌, ◌++◌, take}
use Rattle.omf_order.specs.Records.{part_records, records_bytes}
use Rattle.omf_order.specs.inside.Held.{parts_view}
use Rattle.omf_order.proofs.records.put_parts.Given as goal

abbrev pub invariant-loop-place : goal.invariant-loop-place
invariant-loop-place g l =
    l.out.items
    ≡ l.initial.out.items ++ records_bytes (part_records l.null_bytes 0 (parts_view (take l.place l.parts)))
