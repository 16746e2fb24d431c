use Rattle.std.proofs.Common.{◌≡◌, ◌++◌, drop, map}
use Rattle.std.specs.List.{enumerate_from}
use Rattle.link_map.specs.Detailed.{part_of}
use Rattle.link_map.specs.inside.Details.{all_parts}
use Rattle.link_map.proofs.parts.push_input.Given as goal

abbrev pub invariant-loop-index : goal.invariant-loop-index
invariant-loop-index g l = all_parts l.parts.items
    ++ map (part_of l.fn.input.layout.now l.fn.input.name.now l.fn.input.attributes.items
    (l.fn.input.input, l.fn.input.from.now)) (enumerate_from l.index (drop l.index l.fn.input.from.now.segments))
    ≡ all_parts l.initial.parts.items
    ++ map (part_of l.fn.input.layout.now l.fn.input.name.now l.fn.input.attributes.items
    (l.fn.input.input, l.fn.input.from.now)) (enumerate_from 0 l.fn.input.from.now.segments)
