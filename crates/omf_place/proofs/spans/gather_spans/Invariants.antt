use Rattle.std.proofs.Common.{◌≡◌, map, take}
use Rattle.omf_place.specs.inside.Spans.{span_of}
use Rattle.omf_place.specs.inside.Sites.{sites_view}
use Rattle.omf_place.proofs.spans.gather_spans.Given as goal

abbrev pub invariant-loop-i : goal.invariant-loop-i
invariant-loop-i g l = l.all.items ≡ map (span_of (sites_view l.sites) l.addresses) (sites_view (take l.i l.sites))
