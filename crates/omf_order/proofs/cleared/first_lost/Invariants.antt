use Rattle.std.proofs.Common.{◌≡◌, [], List, map, take}
use Rattle.std.specs.List.{enumerate_from, flat_map}
use Rattle.omf_order.specs.Cleared.{lost_in}
use Rattle.omf_order.specs.inside.Held.{CodePart, part_key, parts_view}
use Rattle.omf_order.proofs.cleared.first_lost.Given as goal

abbrev pub invariant-loop-place : goal.invariant-loop-place
invariant-loop-place g l =
    (parts : List CodePart) → l.early ≡ map part_key parts →
    flat_map (lost_in (parts_view parts)) (take l.place (enumerate_from 0 l.modules)) ≡ []
