use Rattle.std.proofs.Common.{◌∙◌, ◌++◌, ◌∷◌, [], ap, arith, append-nil, append_assoc, map, sym, take}
use Rattle.std.proofs.lemmas.List.{map-append, take_all}
use Rattle.omf_module.specs.Seen.{segment_seen}
use Rattle.omf_stack.proofs.Lists.{take_one}
use Rattle.omf_stack.proofs.segments.push_segments.Goals as goal

pub loop-index-preserved : goal.loop-index-preserved
loop-index-preserved g c =
    let segments = c.args.from.now.segments in
    let s = segment_seen c.segment-segment.result in
    let front = map segment_seen c.args.all.now.items in
    ap (map segment_seen) c.in_ok-push.ensures.items
    ∙ map-append segment_seen c.loop-index.all.items (c.segment-segment.result ∷ [])
    ∙ ap (λ ys. ys ++ s ∷ []) c.loop-index.invariant ∙ append_assoc front (take c.loop-index.index segments) (s ∷ [])
    ∙ ap (λ ys. front ++ ys) (sym (take_one segments c.loop-index.index s c.segment-segment.ensures))

pub loop-index-init : goal.loop-index-init
loop-index-init g c = sym (append-nil (map segment_seen c.args.all.now.items))

pub returns : goal.returns
returns g c =
    c.loop-index.invariant
    ∙ ap (λ ss. map segment_seen c.args.all.now.items ++ ss)
    (take_all c.loop-index.index c.args.from.now.segments (omega arith))
