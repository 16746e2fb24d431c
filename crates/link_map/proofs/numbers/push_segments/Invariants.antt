use Rattle.std.proofs.Common.{◌≡◌, ◌++◌, drop}
use Rattle.std.specs.List.{enumerate_from, flat_map}
use Rattle.link_map.specs.Numbers.{lines_in_segment, lines_in_segments}
use Rattle.link_map.proofs.numbers.push_segments.Given as goal

abbrev pub invariant-loop-index : goal.invariant-loop-index
invariant-loop-index g l = l.text.items
    ++ flat_map (lines_in_segment l.fn.input.layout.now l.fn.input.file.now l.fn.input.numbered.now.name.now
    l.fn.input.numbered.now.lines.items l.fn.input.input)
    (enumerate_from l.index (drop l.index l.fn.input.from.now.segments))
    ≡ l.initial.text.items ++ lines_in_segments l.fn.input.layout.now l.fn.input.file.now
    l.fn.input.numbered.now.name.now l.fn.input.numbered.now.lines.items (l.fn.input.input, l.fn.input.from.now)
