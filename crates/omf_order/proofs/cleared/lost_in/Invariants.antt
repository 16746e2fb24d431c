use Rattle.std.proofs.Common.{◌≡◌, [], List, map, take}
use Rattle.std.specs.List.{flat_map}
use Rattle.omf_order.specs.Cleared.{lost_by}
use Rattle.omf_order.specs.inside.Held.{CodePart, part_key, parts_view}
use Rattle.omf_order.proofs.cleared.lost_in.Given as goal

abbrev pub invariant-loop-index : goal.invariant-loop-index
invariant-loop-index g l =
    (parts : List CodePart) → l.early ≡ map part_key parts →
    flat_map (lost_by (parts_view parts) (l.place, l.from)) (take l.index l.from.data_records) ≡ []
