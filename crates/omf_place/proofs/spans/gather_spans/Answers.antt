use Rattle.std.proofs.Common.{◌∙◌, arith, rules}
use Rattle.omf_place.proofs.SpanTables.{inside_table, gathered-more}
use Rattle.omf_place.proofs.spans.gather_spans.Goals as goal

pub bounds-addresses-place : goal.bounds-addresses-place
bounds-addresses-place g c =
    let w =
    inside_table c.args.sites.now c.args.places.now c.args.addresses.now c.args.ends.now c.requires.numbered
    c.requires.places c.loop-i.i c.loop-i-test.true in omega (arith, w, c.requires.table)

pub offset_bounds-addresses-place : goal.offset_bounds-addresses-place
offset_bounds-addresses-place g c =
    let w =
    inside_table c.args.sites.now c.args.places.now c.args.addresses.now c.args.ends.now c.requires.numbered
    c.requires.places c.loop-i.i c.loop-i-test.true in
    let e = c.requires.table in search rules

pub bounds-ends-place : goal.bounds-ends-place
bounds-ends-place g c =
    let w =
    inside_table c.args.sites.now c.args.places.now c.args.addresses.now c.args.ends.now c.requires.numbered
    c.requires.places c.loop-i.i c.loop-i-test.true in omega (arith, w, c.requires.count)

pub offset_bounds-ends-place : goal.offset_bounds-ends-place
offset_bounds-ends-place g c =
    let w =
    inside_table c.args.sites.now c.args.places.now c.args.addresses.now c.args.ends.now c.requires.numbered
    c.requires.places c.loop-i.i c.loop-i-test.true in
    let e = c.requires.count in search rules

pub loop-i-preserved : goal.loop-i-preserved
loop-i-preserved g c =
    c.in_ok-push.ensures.items
    ∙ gathered-more c.args.sites.now c.args.places.now c.args.addresses.now c.args.ends.now c.requires.numbered
    c.requires.places c.requires.ends c.loop-i.i c.loop-i.all.items c.loop-i-test.true c.loop-i.invariant
