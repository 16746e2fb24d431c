use Rattle.std.proofs.Common.{◌≡◌, take, map}
use Rattle.omf_place.specs.inside.Sites.{sites_view}
use Rattle.omf_place.specs.inside.Spans.{addresses_in}
use Rattle.omf_place.specs.inside.Stands.{stand_of}
use Rattle.omf_place.proofs.stands.collect_stands.Given as goal

abbrev pub invariant-loop-i : goal.invariant-loop-i
invariant-loop-i g l =
    l.all.items ≡ map (stand_of (sites_view l.sites) (addresses_in l.spans)) (sites_view (take l.i l.sites))
