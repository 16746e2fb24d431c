use Rattle.std.proofs.Common.{ap, sym, ◌∙◌, arith}
use Rattle.std.proofs.lemmas.List.{append-nil, take_all}
use Rattle.omf_module.specs.Seen.{segment_seen}
use Rattle.omf_module.specs.Sound.{SegmentFits}
use Rattle.omf_module.specs.inside.Store.{Kept}
use Rattle.omf_module.proofs.Pushing.{pushed_more, fits_at}
use Rattle.omf_module.proofs.declarations.join_segments.Goals as goal

pub loop-index-init : goal.loop-index-init
loop-index-init g c =
    let old : Kept = c.args.store.now in
    ap (λ xs. record old { segments = xs }) (sym (append-nil old.segments))

pub push_part-requires : goal.push_part-requires
push_part-requires g c =
    let fits =
    fits_at SegmentFits c.args.more.now.segments c.loop-index.index (segment_seen c.segment.result)
    c.promises.ensures.segments c.segment.ensures in
    fits.length

pub loop-index-preserved : goal.loop-index-preserved
loop-index-preserved g c =
    let old : Kept = c.args.store.now in
    let more = pushed_more old.segments c.args.more.now.segments c.loop-index.index _ c.segment.ensures in
    let pushed = rw c.loop-index.invariant at c.in_ok-push_part.ensures in
    pushed ∙ ap (λ xs. record old { segments = xs }) more

pub returns : goal.returns
returns g c =
    let all = take_all c.loop-index.index c.args.more.now.segments (omega arith) in
    rw all at c.loop-index.invariant
