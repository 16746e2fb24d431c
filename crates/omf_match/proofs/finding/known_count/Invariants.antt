use Rattle.std.proofs.Common.{◌≡◌, ◌+◌, ◌≤◌, length, filter, is_some, drop}
use Rattle.omf_match.proofs.finding.known_count.Given as goal

abbrev pub invariant-loop-cell : goal.invariant-loop-cell
invariant-loop-cell l = record {
  few : l.count ≤ l.cell-index;
  sum : l.count + length (filter is_some (drop l.cell-index l.fn.cells)) ≡ length (filter is_some l.fn.cells);
}
