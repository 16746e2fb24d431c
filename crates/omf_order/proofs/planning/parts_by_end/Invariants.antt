use Rattle.std.proofs.Common.{◌≡◌, take, filter}
use Rattle.omf_order.specs.declared.parts.Part.{Part}
use Rattle.omf_order.specs.inside.Held.{is_by_end, part_view}
use Rattle.omf_order.proofs.planning.parts_by_end.Given as goal

abbrev pub invariant-loop-part : goal.invariant-loop-part
invariant-loop-part g l =
    l.found.items ≡ filter (λ (p : Part). is_by_end l.is_of_it (part_view p)) (take l.part-index l.parts)
