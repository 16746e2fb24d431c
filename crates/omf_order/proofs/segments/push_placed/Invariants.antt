use Rattle.std.proofs.Common.{◌≡◌, ◌++◌, take, filter}
use Rattle.omf_module.specs.Module.{Segment}
use Rattle.omf_place.specs.inside.Placing.{is_relocatable}
use Rattle.omf_order.specs.inside.Held.{segments_view}
use Rattle.omf_order.proofs.segments.push_placed.Given as goal

abbrev pub invariant-loop-index : goal.invariant-loop-index
invariant-loop-index g l =
    segments_view l.placed.items
    ≡ segments_view l.initial.placed.items
    ++ filter (λ (s : Segment). is_relocatable s.standing) (take l.index l.from.segments)
