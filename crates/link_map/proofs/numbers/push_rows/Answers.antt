use Rattle.std.proofs.Common.{◌++◌, ◌∙◌, ap, ap₂, append_assoc, arith, length}
use Rattle.omf_place.specs.Layout.{places_of}
use Rattle.link_map.specs.Numbers.{line_text, number_text}
use Rattle.link_map.proofs.Texts.{each-done, each-more}
use Rattle.link_map.proofs.numbers.push_rows.Goals as goal

pub loop-index-preserved : goal.loop-index-preserved
loop-index-preserved g c =
    let places = places_of c.args.input.now.layout.now c.args.input.now.input in
    let text = line_text places c.args.position (length c.args.lines.now) in
    let old = c.loop-index.text.items in
    let i = c.loop-index.index in
    each-more text c.args.lines.now i _ old c.extend_from_slice.new.self.items _ c.loop-index-test.true
    (c.in_ok-extend_from_slice.ensures.items
    ∙ ap (λ t. t ++ c.row_end.result.now) c.in_ok-push_number.ensures
    ∙ append_assoc old _ c.row_end.result.now
    ∙ ap₂ (λ a b. old ++ (a ++ b))
    (ap₂ (number_text _) c.line_place.ensures.frame c.line_place.ensures.offset) c.row_end.ensures)
    c.loop-index.invariant

pub returns : goal.returns
returns g c =
    each-done (line_text (places_of c.args.input.now.layout.now c.args.input.now.input) c.args.position
    (length c.args.lines.now)) c.args.lines.now c.loop-index.index c.loop-index.text.items _ (omega arith)
    c.loop-index.invariant
