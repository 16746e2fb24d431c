use Rattle.std.proofs.Common.{◌≡◌, ◌++◌, drop, length}
use Rattle.std.specs.List.{enumerate_from, flat_map}
use Rattle.omf_place.specs.Layout.{places_of}
use Rattle.link_map.specs.Numbers.{line_text, number_rows}
use Rattle.link_map.proofs.numbers.push_rows.Given as goal

abbrev pub invariant-loop-index : goal.invariant-loop-index
invariant-loop-index g l = l.text.items
    ++ flat_map (line_text (places_of l.fn.input.layout.now l.fn.input.input) l.fn.position (length l.fn.lines))
    (enumerate_from l.index (drop l.index l.fn.lines))
    ≡ l.initial.text.items ++ number_rows (places_of l.fn.input.layout.now l.fn.input.input) l.fn.position l.fn.lines
