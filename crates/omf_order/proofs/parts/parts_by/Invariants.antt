use Rattle.std.proofs.Common.{◌≡◌, map, filter, take}
use Rattle.std.specs.List.{enumerate_from}
use Rattle.omf_order.specs.Parts.{opens, part_of}
use Rattle.omf_order.specs.inside.Held.{parts_view, segments_view}
use Rattle.omf_order.proofs.parts.parts_by.Given as goal

abbrev pub invariant-loop-place : goal.invariant-loop-place
invariant-loop-place g l =
    parts_view l.parts.items
    ≡ map (λ p. part_of (segments_view l.grouped) p.1)
    (filter (opens (segments_view l.placed)) (take l.place (enumerate_from 0 (segments_view l.placed))))
