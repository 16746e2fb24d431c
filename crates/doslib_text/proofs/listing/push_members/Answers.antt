use Rattle.std.proofs.Common.{rules, ◌<◌, length}
use Rattle.omf_library.specs.Members.{plain_member}
use Rattle.doslib_text.specs.Listing.{member_text}
use Rattle.doslib_text.proofs.Texts.{all-more, all-said}
use Rattle.doslib_text.proofs.listing.push_members.Goals as goal

pub loop-member-preserved : goal.loop-member-preserved
loop-member-preserved g c =
    let here : c.loop-member.member-index < length c.args.members.now = search rules in
    all-more (λ m. member_text (plain_member m)) c.args.members.now c.loop-member.member-index _
    c.loop-member.lines.items _ _ here c.in_ok-push_member.ensures c.loop-member.invariant

pub returns : goal.returns
returns g c =
    all-said member_text plain_member c.args.members.now c.loop-member.member-index
    c.loop-member.lines.items c.args.lines.now.items c.loop-member-test.false c.loop-member.invariant
