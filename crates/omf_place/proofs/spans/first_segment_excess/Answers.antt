use Rattle.std.proofs.Common.{rules}
use Rattle.omf_place.proofs.Excessive.{leader-excess, leader-small, leader-within, segment-found}
use Rattle.omf_place.specs.inside.Sites.{sites_view}
use Rattle.omf_place.specs.inside.Spans.{addresses_in}
use Rattle.std.proofs.Common.{None}
use Rattle.omf_place.proofs.spans.first_segment_excess.Goals as goal

pub bounds-spans-first : goal.bounds-spans-first
bounds-spans-first c =
    leader-within c.args.sites.now c.args.spans.now c.in-Some.first.now c.requires.numbered c.requires.spans
    c.in-Some.ensures

pub offset_bounds-spans-first : goal.offset_bounds-spans-first
offset_bounds-spans-first c = let w = bounds-spans-first c in search rules

pub excess-requires : goal.excess-requires
excess-requires c =
    leader-small c.args.sites.now c.args.spans.now c.in-Some.first.now c.requires.numbered c.requires.spans
    c.in-Some.ensures _ c.requires.small

pub returns-in-Some : goal.returns-in-Some
returns-in-Some c =
    leader-excess c.args.sites.now c.args.spans.now c.in-Some.first.now c.requires.numbered c.requires.spans
    c.in-Some.ensures _ c.excess.result c.excess.ensures

pub returns-in-None : goal.returns-in-None
returns-in-None c = segment-found (sites_view c.args.sites.now) (addresses_in c.args.spans.now) None c.in-None.ensures
