use Rattle.std.proofs.Common.{◌≡◌, ◌++◌, take, slice_get}
use Rattle.std.specs.List.{filter_map}
use Rattle.omf_order.specs.inside.Held.{segments_view}
use Rattle.omf_order.proofs.segments.push_members.Given as goal

abbrev pub invariant-loop-member : goal.invariant-loop-member
invariant-loop-member g l =
    segments_view l.grouped.items
    ≡ segments_view l.initial.grouped.items ++ filter_map (slice_get l.from.segments) (take l.member-index l.members)
