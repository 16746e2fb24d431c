use Rattle.std.proofs.Common.{◌≡◌, ◌++◌, drop}
use Rattle.std.specs.List.{flat_map}
use Rattle.omf_match.specs.Told.{gap_line}
use Rattle.omf_match.proofs.told.push_left.Given as goal

abbrev pub invariant-loop-gap : goal.invariant-loop-gap
invariant-loop-gap g l =
    l.lines.items ++ flat_map gap_line (drop l.gap-index l.gap-items)
    ≡ l.initial.lines.items ++ flat_map gap_line l.gap-items
