use Rattle.std.proofs.Common.{◌∙◌, ℕ, ap, arith, refl, slice_get, sym}
use Rattle.std.proofs.lemmas.List.{take_all}
use Rattle.std.specs.List.{flat_map}
use Rattle.omf_module.specs.Module.{Module}
use Rattle.omf_module.specs.Seen.{data_seen, segment_seen}
use Rattle.omf_order.specs.Cleared.{lost_by}
use Rattle.omf_order.specs.inside.Held.{parts_view}
use Rattle.omf_order.proofs.Clearing.{first_given, lost_here, lost_not, none_more}
use Rattle.omf_order.proofs.cleared.lost_in.Goals as goal

pub loop-index-init : goal.loop-index-init
loop-index-init g c = λ parts e. refl

pub returns-then-is_lost : goal.returns-then-is_lost
returns-then-is_lost g c = λ parts e.
    let m : ℕ × Module = (c.args.place, c.args.from.now) in
    let d = data_seen c.data_record-stored.result in
    let s = segment_seen c.segment-segment.result in
    sym
    (first_given (lost_by (parts_view parts) m) c.args.from.now.data_records c.loop-index.index d _
    c.data_record-stored.ensures.seen (c.loop-index.invariant parts e)
    (lost_here (parts_view parts) m d s (ap (slice_get c.args.from.now.segments) (sym c.from.ensures) ∙ c.segment-segment.ensures)
    (sym (c.is_lost.ensures parts e) ∙ c.if-is_lost.true)))

pub loop-index-preserved : goal.loop-index-preserved
loop-index-preserved g c = λ parts e.
    let m : ℕ × Module = (c.args.place, c.args.from.now) in
    let d = data_seen c.data_record-stored.result in
    let s = segment_seen c.segment-segment.result in
    none_more (lost_by (parts_view parts) m) c.args.from.now.data_records c.loop-index.index d
    c.data_record-stored.ensures.seen (c.loop-index.invariant parts e)
    (lost_not (parts_view parts) m d s (ap (slice_get c.args.from.now.segments) (sym c.from.ensures) ∙ c.segment-segment.ensures)
    (sym (c.is_lost.ensures parts e) ∙ c.if-is_lost.false))

pub returns : goal.returns
returns g c = λ parts e.
    let m : ℕ × Module = (c.args.place, c.args.from.now) in
    let all = c.args.from.now.data_records in
    sym
    (ap (λ ds. slice_get (flat_map (lost_by (parts_view parts) m) ds) 0)
    (sym (take_all c.loop-index.index all (omega arith)))
    ∙ ap (λ ys. slice_get ys 0) (c.loop-index.invariant parts e))
