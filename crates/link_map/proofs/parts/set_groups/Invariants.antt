use Rattle.std.proofs.Common.{◌≡◌, Some, drop}
use Rattle.link_map.specs.inside.Details.{filled}
use Rattle.link_map.proofs.parts.set_groups.Given as goal

-- those that are left fill the rest
abbrev pub invariant-loop-segment : goal.invariant-loop-segment
invariant-loop-segment l =
    filled (Some l.group) (drop l.segment-index l.segments) l.table ≡ filled (Some l.group) l.segments l.fn.table
