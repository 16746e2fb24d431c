use Rattle.std.proofs.Common.{◌≡◌, ◌++◌, drop}
use Rattle.std.specs.List.{flat_map}
use Rattle.link_map.specs.Detailed.{part_line}
use Rattle.link_map.specs.inside.Details.{part_seen}
use Rattle.link_map.proofs.part.push_parts.Given as goal

abbrev pub invariant-loop-part : goal.invariant-loop-part
invariant-loop-part g l = l.text.items ++ flat_map (λ p. part_line (part_seen p)) (drop l.part-index l.fn.parts)
    ≡ l.initial.text.items ++ flat_map (λ p. part_line (part_seen p)) l.fn.parts
