use Rattle.std.proofs.Common.{◌≡◌, ◌+◌, ◌++◌, slice_index}
use Rattle.std.specs.List.{flat_map, range_with_len}
use Rattle.omf_match.specs.Told.{hit_line}
use Rattle.omf_match.proofs.told.Shown.push_hits.Given as goal

abbrev pub invariant-loop-index : goal.invariant-loop-index
invariant-loop-index g l =
    l.lines.items ≡ l.initial.lines.items ++ flat_map
    (λ i. hit_line l.fn.self.from.now l.fn.self.image.now l.fn.fixup (l.fn.start + i) (slice_index l.fn.places i))
    (range_with_len 0 l.index)
