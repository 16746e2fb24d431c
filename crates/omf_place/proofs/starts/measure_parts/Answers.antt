use Rattle.std.proofs.Common.{◌<◌, ◌∙◌, arith, length, get_or, rules}
use Rattle.omf_place.specs.inside.Sites.{sites_view}
use Rattle.omf_place.specs.inside.Walk.{unit_measure}
use Rattle.omf_place.proofs.Measuring.{place_inside, measure_is, map_site-more}
use Rattle.omf_place.proofs.starts.measure_parts.Goals as goal

pub offset_bounds-alignments-first : goal.offset_bounds-alignments-first
offset_bounds-alignments-first g c =
    let w : get_or c.args.places.now c.loop-i.i 0 < length c.args.sites.now =
    place_inside c.args.sites.now c.args.places.now c.requires.numbered c.requires.places c.loop-i.i
    c.loop-i-test.true in let e = c.requires.alignment_count in search rules

pub bounds-alignments-first : goal.bounds-alignments-first
bounds-alignments-first g c =
    let w : get_or c.args.places.now c.loop-i.i 0 < length c.args.sites.now =
    place_inside c.args.sites.now c.args.places.now c.requires.numbered c.requires.places c.loop-i.i
    c.loop-i-test.true in omega (arith, c.requires.alignment_count)

pub offset_bounds-lengths-first : goal.offset_bounds-lengths-first
offset_bounds-lengths-first g c =
    let w : get_or c.args.places.now c.loop-i.i 0 < length c.args.sites.now =
    place_inside c.args.sites.now c.args.places.now c.requires.numbered c.requires.places c.loop-i.i
    c.loop-i-test.true in let e = c.requires.length_count in search rules

pub bounds-lengths-first : goal.bounds-lengths-first
bounds-lengths-first g c =
    let w : get_or c.args.places.now c.loop-i.i 0 < length c.args.sites.now =
    place_inside c.args.sites.now c.args.places.now c.requires.numbered c.requires.places c.loop-i.i
    c.loop-i-test.true in omega (arith, c.requires.length_count)

pub loop-i-preserved : goal.loop-i-preserved
loop-i-preserved g c =
    c.in_ok-push.ensures.items
    ∙ map_site-more (unit_measure (sites_view c.args.sites.now)) c.args.sites.now c.loop-i.i _ c.loop-i.all.items _
    c.loop-i-test.true c.loop-i.invariant
    (c.part_measure.ensures
    ∙ measure_is c.args.sites.now c.args.places.now c.requires.numbered c.requires.places c.args.alignments.now
    c.args.lengths.now c.requires.alignments c.requires.lengths c.loop-i.i _ c.loop-i-test.true)
