use Rattle.std.proofs.Common.{◌≡◌, ◌++◌, drop, length, map}
use Rattle.std.specs.List.{flat_map}
use Rattle.omf_search.specs.Results.{wanted_said}
use Rattle.doslink_stock.specs.Seen.{entry_held, handed_held}
use Rattle.doslink_telling.specs.Missing.{missing_line}
use Rattle.doslink_telling.proofs.missing.push_told_lines.Given as goal

abbrev pub invariant-loop-each : goal.invariant-loop-each
invariant-loop-each g l =
    let line = missing_line l.fn.paths (map handed_held l.fn.handed) (map entry_held l.fn.stock.members.items) in
    l.lines.items ++ flat_map line (map wanted_said (drop (length l.yielded) l.fn.missing))
    ≡ l.initial.lines.items ++ flat_map line (map wanted_said l.fn.missing)
