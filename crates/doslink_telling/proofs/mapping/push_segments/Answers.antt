use Rattle.std.proofs.Common.{◌≡◌, ℕ, ◌++◌, ap₂, get_or, sym, ◌∙◌}
use Rattle.std.proofs.lemmas.Option.{get_or_from_slice_get, slice_get_within}
use Rattle.omf_module.specs.Module.{Segment}
use Rattle.omf_module.specs.Seen.{segment_seen}
use Rattle.omf_place.specs.Layout.{segment_position}
use Rattle.doslink_telling.specs.Table.{segment_line}
use Rattle.doslink_telling.proofs.Texts.{each-more}
use Rattle.doslink_telling.proofs.mapping.push_segments.Goals as goal

pub loop-segment-preserved : goal.loop-segment-preserved
loop-segment-preserved g c =
    let segments = c.args.from.now.segments in
    let seen = segment_seen c.segment.result in
    let loop = c.loop-segment in
    let here = slice_get_within segments loop.segment seen c.segment.ensures in
    let is : get_or segments loop.segment seen ≡ seen =
    get_or_from_slice_get segments loop.segment seen seen c.segment.ensures in
    each-more (λ (s : ℕ × Segment). segment_line (segment_position c.args.layout.now c.args.input s.0) s.1) segments
    loop.segment seen loop.text.items _ _ here
    (c.in_ok-push_segment.ensures
    ∙ ap₂ (λ p s. loop.text.items ++ segment_line p s) c.segment_position-position.ensures (sym is)) loop.invariant
