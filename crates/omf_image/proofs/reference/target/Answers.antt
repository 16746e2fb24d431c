use Rattle.std.proofs.Common.{◌∙◌, ◌-◌, ℕ, Ok, ap, sym}
use Rattle.omf_place.specs.Layout.{segment_position}
use Rattle.omf_image.specs.Reference.{target_of}
use Rattle.omf_image.proofs.reference.target.Goals as goal

pub returns-in-Segment : goal.returns-in-Segment
returns-in-Segment g c =
    let layout = c.args.layout.now in
    let input = c.args.input in
    ap Ok (c.segment_position.ensures ∙ ap (λ (n : ℕ). segment_position layout input (n - 1)) c.from.ensures)
    ∙ ap (target_of layout input c.args.module.now) (sym c.in-Segment.is)
