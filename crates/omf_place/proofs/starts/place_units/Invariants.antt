use Rattle.std.proofs.Common.{◌*◌, ◌≤◌, filter, take}
use Rattle.omf_place.specs.Parts.{placement_order}
use Rattle.omf_place.specs.Placed.{FollowFrom, is_unit}
use Rattle.omf_place.specs.inside.Sites.{sites_view}
use Rattle.omf_place.specs.inside.Walk.{KeepsOthers}
use Rattle.omf_place.proofs.starts.place_units.Given as goal
use Rattle.omf_place.proofs.Walks.{}

abbrev pub invariant-loop-rank : goal.invariant-loop-rank
invariant-loop-rank l = record {
  follow : FollowFrom (sites_view l.sites) l.addresses 0
      (filter (is_unit (sites_view l.sites)) (take l.rank-index (placement_order (sites_view l.sites)))) l.end;
  small : l.end ≤ l.rank-index * 65792;
  kept : KeepsOthers (sites_view l.sites) l.initial.addresses l.addresses;
}
