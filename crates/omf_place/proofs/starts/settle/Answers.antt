use Rattle.std.proofs.Common.{◌<◌, ◌∙◌, ap, arith, length, get_or, map, rules}
use Rattle.std.proofs.lemmas.List.{length-map, take_all}
use Rattle.omf_place.specs.inside.Keys.{segment_place}
use Rattle.omf_place.specs.inside.Sites.{site, sites_view}
use Rattle.omf_place.specs.inside.Walk.{settled}
use Rattle.omf_place.proofs.Measuring.{place_inside, settled_is, map_site-more}
use Rattle.omf_place.proofs.starts.settle.Goals as goal

pub loop-i-init : goal.loop-i-init
loop-i-init g c = c.new-all.ensures.items

pub bounds-places-i : goal.bounds-places-i
bounds-places-i g c =
    let ss = c.args.sites.now in
    let all = sites_view ss in
    omega (arith, ap length c.requires.places, length-map all (segment_place all), length-map ss site)

pub offset_bounds-addresses-first : goal.offset_bounds-addresses-first
offset_bounds-addresses-first g c =
    let w : get_or c.args.places.now c.loop-i.i 0 < length c.args.sites.now =
    place_inside c.args.sites.now c.args.places.now c.requires.numbered c.requires.places c.loop-i.i
    c.loop-i-test.true in let e = c.requires.table in search rules

pub bounds-addresses-first : goal.bounds-addresses-first
bounds-addresses-first g c =
    let w : get_or c.args.places.now c.loop-i.i 0 < length c.args.sites.now =
    place_inside c.args.sites.now c.args.places.now c.requires.numbered c.requires.places c.loop-i.i
    c.loop-i-test.true in omega (arith, c.requires.table)

pub loop-i-preserved : goal.loop-i-preserved
loop-i-preserved g c =
    c.in_ok-push.ensures.items
    ∙ map_site-more (settled (sites_view c.args.sites.now) c.args.addresses.now) c.args.sites.now c.loop-i.i _
    c.loop-i.all.items _ c.loop-i-test.true c.loop-i.invariant
    (c.settled_address-address.ensures
    ∙ settled_is c.args.sites.now c.args.places.now c.args.addresses.now c.requires.numbered c.requires.places
    c.loop-i.i _ c.loop-i-test.true)

pub returns : goal.returns
returns g c =
    let ss = c.args.sites.now in
    c.loop-i.invariant
    ∙ ap (λ xs. map (settled (sites_view ss) c.args.addresses.now) (sites_view xs))
    (take_all c.loop-i.i ss c.loop-i-test.false)
