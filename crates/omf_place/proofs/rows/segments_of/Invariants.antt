use Rattle.std.proofs.Common.{◌≡◌, take}
use Rattle.omf_place.specs.inside.Rows.{placed_row}
use Rattle.omf_place.specs.inside.Sites.{sites_view}
use Rattle.omf_place.proofs.rows.segments_of.Given as goal

abbrev pub invariant-loop-index : goal.invariant-loop-index
invariant-loop-index g l =
    l.row.items ≡ placed_row (sites_view (take l.index l.input.sites.now)) (take l.index l.input.stands.now)
