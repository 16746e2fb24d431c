use Rattle.std.proofs.Common.{◌≡◌, ◌∙◌, ◌++◌, ◌∷◌, [], Some, ap, arith, get_or, slice_get, sym, append-nil}
use Rattle.std.proofs.Common.{append_assoc}
use Rattle.std.proofs.lemmas.List.{map-append, take_all}
use Rattle.std.specs.List.{filter_map}
use Rattle.omf_module.specs.Seen.{segment_seen}
use Rattle.omf_order.specs.inside.Held.{segments_view}
use Rattle.omf_order.proofs.Lists.{members-added}
use Rattle.omf_order.proofs.segments.push_members.Goals as goal

pub loop-member-preserved : goal.loop-member-preserved
loop-member-preserved g c =
    let segments = c.args.from.now.segments in
    let s = segment_seen c.segment-segment.result in
    let e : slice_get segments (get_or c.args.members.now c.loop-member.member-index 0) ≡ Some s = cc in
    ap segments_view c.in_ok-push.ensures.items
    ∙ map-append segment_seen c.loop-member.grouped.items (c.segment-segment.result ∷ [])
    ∙ ap (λ ys. ys ++ s ∷ []) c.loop-member.invariant ∙ append_assoc (segments_view c.args.grouped.now.items) _ (s ∷ [])
    ∙ ap (λ ys. segments_view c.args.grouped.now.items ++ ys)
    (sym (members-added segments c.args.members.now c.loop-member.member-index s c.loop-member-test.true e))

pub loop-member-init : goal.loop-member-init
loop-member-init g c = sym (append-nil (segments_view c.args.grouped.now.items))

pub returns : goal.returns
returns g c =
    c.loop-member.invariant
    ∙ ap (λ ms. segments_view c.args.grouped.now.items ++ filter_map (slice_get c.args.from.now.segments) ms)
    (take_all c.loop-member.member-index c.args.members.now (omega arith))
