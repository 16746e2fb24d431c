use Rattle.std.proofs.Common.{◌≡◌, take, map, filter}
use Rattle.omf_place.specs.Parts.{placement_order}
use Rattle.omf_place.specs.Placed.{leads}
use Rattle.omf_place.specs.inside.Sites.{sites_view}
use Rattle.omf_place.specs.inside.Spans.{addresses_in}
use Rattle.omf_place.specs.Tables.{combined_segment}
use Rattle.omf_place.proofs.spans.combined_segments.Given as goal

abbrev pub invariant-loop-rank : goal.invariant-loop-rank
invariant-loop-rank g l =
    l.all.items
    ≡ map (combined_segment (sites_view l.sites) (addresses_in l.spans))
    (filter (leads (sites_view l.sites)) (take l.rank-index (placement_order (sites_view l.sites))))
