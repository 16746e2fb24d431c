use Rattle.std.proofs.Common.{length, map}
use Rattle.omf_library.proofs.Listing.{EntriesLeft}
use Rattle.omf_lines.specs.Lines.{line_of, pair_front}
use Rattle.omf_lines.proofs.reading.push_pairs.Given as goal

abbrev pub invariant-loop-pair : goal.invariant-loop-pair
invariant-loop-pair g l =
    EntriesLeft pair_front (map (line_of l.group l.segment)) l.bytes l.rest l.initial.lines.items l.lines.items

abbrev pub decreases-loop-pair : goal.decreases-loop-pair
decreases-loop-pair g l = length l.rest
