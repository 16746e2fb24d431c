use Rattle.std.proofs.Common.{◌≡◌, ◌+◌, ◌≤◌, drop, length}
use Rattle.std.specs.List.{position_or_len}
use Rattle.omf_library.specs.inside.Lines.{ends_line, line_lengths}
use Rattle.omf_library.proofs.long_names.line_lengths.Given as goal

abbrev pub invariant-loop-place : goal.invariant-loop-place
invariant-loop-place g l =
    (l.place ≤ length l.table) × (l.len + l.place ≤ length l.table)
    × (l.len ≡ position_or_len ends_line (drop l.place l.table))
    × (l.lengths.items ≡ line_lengths (drop l.place l.table))

abbrev pub decreases-loop-place : goal.decreases-loop-place
decreases-loop-place g l = l.place
