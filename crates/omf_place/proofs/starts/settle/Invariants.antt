use Rattle.std.proofs.Common.{◌≡◌, map, take}
use Rattle.omf_place.specs.inside.Walk.{settled}
use Rattle.omf_place.specs.inside.Sites.{sites_view}
use Rattle.omf_place.proofs.starts.settle.Given as goal

abbrev pub invariant-loop-i : goal.invariant-loop-i
invariant-loop-i g l = l.all.items ≡ map (settled (sites_view l.sites) l.addresses) (sites_view (take l.i l.sites))
