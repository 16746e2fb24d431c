use Rattle.std.proofs.Common.{◌≡◌, ◌++◌, drop}
use Rattle.std.specs.List.{enumerate_from, flat_map}
use Rattle.omf_place.specs.Layout.{segment_position}
use Rattle.doslink_telling.specs.Table.{segment_line, segment_lines}
use Rattle.doslink_telling.proofs.mapping.push_segments.Given as goal

abbrev pub invariant-loop-segment : goal.invariant-loop-segment
invariant-loop-segment g l = l.text.items
    ++ flat_map (λ s. segment_line (segment_position l.fn.layout l.fn.input s.0) s.1)
    (enumerate_from l.segment (drop l.segment l.fn.from.segments))
    ≡ l.initial.text.items ++ segment_lines l.fn.layout (l.fn.input, l.fn.from)
