use Rattle.std.proofs.Common.{rules, ◌<◌, ◌≡◌, ◌+◌, ◌++◌, ◌∙◌, ap, arith, filter, length, sym}
use Rattle.std.proofs.lemmas.Option.{get_or_from_slice_get}
use Rattle.omf_lines.specs.Lines.{is_of}
use Rattle.omf_place.specs.Layout.{places_of, segment_position}
use Rattle.link_map.specs.Numbers.{lines_in_segment, numbers_heading, segment_numbers}
use Rattle.link_map.proofs.BySegment.{item-at}
use Rattle.link_map.proofs.Texts.{each-done, each-more}
use Rattle.link_map.proofs.numbers.push_segments.Goals as goal

pub loop-index-preserved : goal.loop-index-preserved
loop-index-preserved g c =
    let input = c.args.input.now in
    let segments = input.from.now.segments in
    let text = lines_in_segment input.layout.now input.file.now input.numbered.now.name.now
    input.numbered.now.lines.items input.input in
    let i = c.loop-index.index in
    let old = c.loop-index.text.items in
    let here : i < length segments = search rules in
    let (segment, there) = item-at segments i here in
    let same : c.lines_of_segment-lines.result.now ≡ filter (is_of (i + 1)) input.numbered.now.lines.items =
    c.lines_of_segment-lines.ensures ∙ ap (filter (is_of (i + 1))) c.deref.ensures.value in
    each-more text segments i segment old _ _ here
    (c.in_ok-push_segment.ensures segment there
    ∙ ap (λ l. old ++ segment_numbers (places_of input.layout.now input.input)
    (segment_position input.layout.now input.input i)
    (numbers_heading input.file.now input.numbered.now.name.now segment.name) l) same
    ∙ ap (λ s. old ++ text (i, s)) (sym (get_or_from_slice_get segments i segment segment there)))
    c.loop-index.invariant

pub returns : goal.returns
returns g c =
    let input = c.args.input.now in
    each-done (lines_in_segment input.layout.now input.file.now input.numbered.now.name.now
    input.numbered.now.lines.items input.input) input.from.now.segments c.loop-index.index c.loop-index.text.items _
    (omega arith) c.loop-index.invariant
