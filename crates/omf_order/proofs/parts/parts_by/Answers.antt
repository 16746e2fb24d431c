use Rattle.std.proofs.Common.{◌≡◌, ℕ, ◌∙◌, ap, arith, get_or, length, ltb, map, filter}
use Rattle.std.proofs.lemmas.List.{get_or_read, length-map, take_all}
use Rattle.std.specs.List.{enumerate_from}
use Rattle.omf_module.specs.Module.{Segment}
use Rattle.omf_module.specs.Seen.{segment_seen}
use Rattle.omf_order.specs.Parts.{opens, part_of}
use Rattle.omf_order.specs.inside.Held.{parts_view, segments_view}
use Rattle.omf_order.proofs.FirstMet.{first-step, length-enumerate}
use Rattle.omf_order.proofs.parts.parts_by.Goals as goal

pub loop-place-preserved : goal.loop-place-preserved
loop-place-preserved g c =
    let i = c.loop-place.place in
    let ps = c.args.placed.now in
    let gs = c.args.grouped.now in
    let own = c.requires.own in
    let of_group = c.requires.of_group in
    let classes = c.args.own.now.classes.items in
    let combined = c.args.own.now.combined.items in
    let far = c.args.of_group.now.combined.items in
    let near = c.args.of_group.now.classes.items in
    let a : c.index.result.now ≡ get_or classes i 0 =
    get_or_read classes i c.index.result.now (omega (arith, own.class_count)) c.index.ensures 0 in
    let b : c.index-in-loop-place.result.now ≡ get_or combined i 0 =
    get_or_read combined i c.index-in-loop-place.result.now (omega (arith, own.key_count))
    c.index-in-loop-place.ensures 0 in
    let x : c.index-in-loop-place-2.result.now ≡ get_or far i 0 =
    get_or_read far i c.index-in-loop-place-2.result.now (omega (arith, of_group.key_count))
    c.index-in-loop-place-2.ensures 0 in
    let y : c.index-in-loop-place-3.result.now ≡ get_or near i 0 =
    get_or_read near i c.index-in-loop-place-3.result.now (omega (arith, of_group.class_count))
    c.index-in-loop-place-3.ensures 0 in
    first-step ps gs i _ classes combined near far c.first_of-first.result c.is_within-is_found.result
    c.is_within-class_in_group.result c.loop-place.parts.items _ c.loop-place-test.true
    own.by_class own.by_key of_group.by_class of_group.by_key
    (c.is_within-is_found.ensures ∙ ap (λ n. ltb n (length gs)) x)
    (c.is_within-class_in_group.ensures ∙ ap (λ n. ltb n (length gs)) y)
    (rw (a, b) at c.first_of-first.ensures)
    c.loop-place.invariant c.in_ok-push_first.ensures

pub returns : goal.returns
returns g c =
    let P = segments_view c.args.placed.now in
    let G = segments_view c.args.grouped.now in
    c.loop-place.invariant
    ∙ ap (λ es. map (λ (p : ℕ × Segment). part_of G p.1) (filter (opens P) es))
    (take_all c.loop-place.place (enumerate_from 0 P)
    (omega (arith, length-enumerate 0 P, length-map c.args.placed.now segment_seen)))

pub loop-place-init : goal.loop-place-init
loop-place-init g c = ap parts_view c.new-parts.ensures.items
