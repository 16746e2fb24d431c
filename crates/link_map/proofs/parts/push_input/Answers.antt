use Rattle.std.proofs.Common.{rules, ◌<◌, ◌++◌, ◌∷◌, ◌∙◌, [], ap, arith, length, sym}
use Rattle.std.proofs.lemmas.List.{map-append}
use Rattle.std.proofs.lemmas.Option.{get_or_from_slice_get}
use Rattle.link_map.specs.Detailed.{part_of}
use Rattle.link_map.specs.inside.Details.{all_parts, part_seen}
use Rattle.link_map.proofs.BySegment.{item-at}
use Rattle.link_map.proofs.Texts.{mapped-done, mapped-more}
use Rattle.link_map.proofs.parts.push_input.Goals as goal

pub loop-index-preserved : goal.loop-index-preserved
loop-index-preserved g c =
    let input = c.args.input.now in
    let segments = input.from.now.segments in
    let part = part_of input.layout.now input.name.now input.attributes.items (input.input, input.from.now) in
    let i = c.loop-index.index in
    let old = c.loop-index.parts.items in
    let here : i < length segments = search rules in
    let (segment, there) = item-at segments i here in
    mapped-more part segments i segment (all_parts old) _ _ here
    (ap all_parts c.in_ok-push.ensures.items
    ∙ map-append part_seen old (c.part.result ∷ [])
    ∙ ap (λ p. all_parts old ++ p ∷ []) (c.part.ensures segment there
    ∙ ap (λ s. part (i, s)) (sym (get_or_from_slice_get segments i segment segment there))))
    c.loop-index.invariant

pub returns : goal.returns
returns g c =
    let input = c.args.input.now in
    mapped-done (part_of input.layout.now input.name.now input.attributes.items (input.input, input.from.now))
    input.from.now.segments c.loop-index.index (all_parts c.loop-index.parts.items) _ (omega arith)
    c.loop-index.invariant
