use Rattle.std.proofs.Common.{filter, length, map}
use Rattle.omf_library.proofs.Listing.{EntriesLeft}
use Rattle.omf_lines.specs.Lines.{is_in_16_bits, line_of, wide_pair_front}
use Rattle.omf_lines.proofs.reading.push_wide_pairs.Given as goal

abbrev pub invariant-loop-pair : goal.invariant-loop-pair
invariant-loop-pair g l =
    EntriesLeft wide_pair_front (λ pairs. map (line_of l.group l.segment) (filter is_in_16_bits pairs)) l.bytes l.rest
    l.initial.lines.items l.lines.items

abbrev pub decreases-loop-pair : goal.decreases-loop-pair
decreases-loop-pair g l = length l.rest
