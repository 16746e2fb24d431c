use Rattle.std.proofs.Common.{◌≡◌, length, drop, replicate, fold, None}
use Rattle.omf_match.specs.Pattern.{laid_in, segment_len}
use Rattle.omf_match.proofs.pattern.pattern_of.Given as goal

abbrev pub invariant-loop-index : goal.invariant-loop-index
invariant-loop-index g l = record {
  len : length l.cells.items ≡ segment_len l.fn.from l.fn.segment;
  laid : fold (laid_in l.fn.segment) l.cells.items (drop l.index l.fn.from.data_records)
      ≡ fold (laid_in l.fn.segment) (replicate (segment_len l.fn.from l.fn.segment) None) l.fn.from.data_records;
}
