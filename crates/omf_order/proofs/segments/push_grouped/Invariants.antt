use Rattle.std.proofs.Common.{◌≡◌, ◌++◌, take}
use Rattle.std.specs.List.{flat_map}
use Rattle.omf_order.specs.Segments.{members}
use Rattle.omf_order.specs.inside.Held.{segments_view}
use Rattle.omf_order.proofs.segments.push_grouped.Given as goal

abbrev pub invariant-loop-index : goal.invariant-loop-index
invariant-loop-index g l =
    segments_view l.grouped.items
    ≡ segments_view l.initial.grouped.items ++ flat_map (members l.from.segments) (take l.index l.from.groups)
