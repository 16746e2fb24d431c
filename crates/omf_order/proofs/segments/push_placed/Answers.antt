use Rattle.std.proofs.Common.{◌∙◌, ◌++◌, ap, arith, append-nil, filter, sym}
use Rattle.std.proofs.lemmas.List.{take_all}
use Rattle.omf_module.specs.Module.{Segment}
use Rattle.omf_module.specs.Seen.{segment_seen}
use Rattle.omf_place.specs.inside.Placing.{is_relocatable}
use Rattle.omf_order.specs.inside.Held.{segments_view}
use Rattle.omf_order.proofs.Lists.{filter-added, filter-kept}
use Rattle.omf_order.proofs.segments.push_placed.Goals as goal
use Rattle.omf_order.proofs.segments.push_placed.Goals.{then-is_placed+in_ok-push, else-is_placed}

pub loop-index-preserved : goal.loop-index-preserved
loop-index-preserved g c =
    let segments = c.args.from.now.segments in
    let i = c.loop-index.index in
    let s = c.segment-segment.result in
    elim c.if-is_placed.branch [
      | then-is_placed+in_ok-push w ↦ ap (λ v. segments_view v.items) w.placed-is
          ∙ filter-added segment_seen (λ (a : Segment). is_relocatable a.standing) segments i s
          (segments_view c.args.placed.now.items) c.loop-index.placed.items _ c.segment-segment.ensures
          (sym c.is_placed.ensures ∙ w.if-is_placed.true) w.in_ok-push.ensures.items c.loop-index.invariant
      | else-is_placed w ↦ ap (λ v. segments_view v.items) w.placed-is
          ∙ filter-kept segment_seen (λ (a : Segment). is_relocatable a.standing) segments i s
          (segments_view c.args.placed.now.items) c.loop-index.placed.items c.segment-segment.ensures
          (sym c.is_placed.ensures ∙ w.if-is_placed.false) c.loop-index.invariant
    ]

pub loop-index-init : goal.loop-index-init
loop-index-init g c = sym (append-nil (segments_view c.args.placed.now.items))

pub returns : goal.returns
returns g c =
    c.loop-index.invariant
    ∙ ap (λ ss. segments_view c.args.placed.now.items ++ filter (λ (a : Segment). is_relocatable a.standing) ss)
    (take_all c.loop-index.index c.args.from.now.segments (omega arith))
