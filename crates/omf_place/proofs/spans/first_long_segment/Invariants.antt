use Rattle.std.proofs.Common.{◌≡◌, take, find, None, ◌&&◌}
use Rattle.omf_place.specs.inside.Steps.{is_long_segment}
use Rattle.omf_place.specs.Parts.{Site, placement_order}
use Rattle.omf_place.specs.Placed.{leads}
use Rattle.omf_place.specs.inside.Sites.{sites_view}
use Rattle.omf_place.specs.inside.Spans.{addresses_in}
use Rattle.omf_place.proofs.spans.first_long_segment.Given as goal

abbrev pub invariant-loop-rank : goal.invariant-loop-rank
invariant-loop-rank l =
    find (λ (a : Site). leads (sites_view l.sites) a && is_long_segment (sites_view l.sites) (addresses_in l.spans) a)
    (take l.rank-index (placement_order (sites_view l.sites))) ≡ None
