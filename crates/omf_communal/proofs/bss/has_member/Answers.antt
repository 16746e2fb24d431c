use Rattle.std.proofs.Common.{◌≡◌, ◌∙◌, Some, get_or, slice_get, sym}
use Rattle.omf_module.specs.Seen.{segment_seen}
use Rattle.omf_communal.specs.Bss.{is_bss}
use Rattle.omf_communal.proofs.Searching.{member_found, member_kept}
use Rattle.omf_communal.proofs.bss.has_member.Goals as goal

pub returns-then-is_bss : goal.returns-then-is_bss
returns-then-is_bss g c =
    let segments = c.args.from.now.segments in
    let e : slice_get segments (get_or c.args.members.now c.loop-member.member-index 0)
    ≡ Some (segment_seen c.segment-segment.result) = cc in
    sym (member_found is_bss segments c.args.members.now c.loop-member.member-index
    (segment_seen c.segment-segment.result) c.loop-member-test.true e (sym c.is_bss.ensures ∙ c.if-is_bss.true))

pub loop-member-preserved : goal.loop-member-preserved
loop-member-preserved g c =
    let segments = c.args.from.now.segments in
    let e : slice_get segments (get_or c.args.members.now c.loop-member.member-index 0)
    ≡ Some (segment_seen c.segment-segment.result) = cc in
    member_kept is_bss segments c.args.members.now c.loop-member.member-index (segment_seen c.segment-segment.result)
    c.loop-member-test.true e c.loop-member.invariant (sym c.is_bss.ensures ∙ c.if-is_bss.false)
