use Rattle.std.proofs.Common.{◌≡◌, map, take}
use Rattle.omf_place.specs.inside.Walk.{unit_measure}
use Rattle.omf_place.specs.inside.Sites.{sites_view}
use Rattle.omf_place.proofs.starts.measure_parts.Given as goal

abbrev pub invariant-loop-i : goal.invariant-loop-i
invariant-loop-i g l = l.all.items ≡ map (unit_measure (sites_view l.sites)) (sites_view (take l.i l.sites))
