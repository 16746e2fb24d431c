use Rattle.std.proofs.Common.{◌≡◌, ℕ, List, map}
use Rattle.std.specs.List.{AllByRecursion}
use Rattle.omf_module.specs.Lengths.{with_length}
use Rattle.omf_module.specs.Sound.{SegmentFits}
use Rattle.omf_module.specs.inside.Store.{segment, SegmentIsIn}
use Rattle.omf_module.proofs.Indexed.{mixed}
use Rattle.omf_module.proofs.lengths.set_lengths.Given as goal

-- those before the index have their lengths, and all keep their names
abbrev pub invariant-loop-index : goal.invariant-loop-index
invariant-loop-index l = record {
  says : (bytes : List ℕ) → map (segment bytes) l.segments
      ≡ mixed (with_length l.lengths) 0 (map (segment bytes) l.fn.segments) l.index;
  inside : (bytes : List ℕ) → AllByRecursion (SegmentIsIn bytes) l.fn.segments
      → AllByRecursion (SegmentIsIn bytes) l.segments;
  fits : (bytes : List ℕ) → AllByRecursion SegmentFits (map (segment bytes) l.fn.segments)
      → AllByRecursion SegmentFits (map (segment bytes) l.segments);
}
