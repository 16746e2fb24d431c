use Rattle.std.proofs.Common.{◌≡◌, ◌+◌, ◌++◌, length, take, drop, map, zip}
use Rattle.omf_match.specs.Pattern.{cell_of}
use Rattle.omf_match.proofs.pattern.lay.Given as goal

abbrev pub invariant-loop-index : goal.invariant-loop-index
invariant-loop-index g l = record {
  len : length l.cells.items ≡ length l.fn.cells.items;
  laid : l.cells.items ≡ take l.start l.fn.cells.items
      ++ take l.index (map (cell_of l.fn.record.fixups.now) (zip l.fn.record.places.now l.fn.record.bytes.now))
      ++ drop (l.start + l.index) l.fn.cells.items;
}
