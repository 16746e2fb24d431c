use Rattle.std.proofs.Common.{◌<◌, length, rules}
use Rattle.doslib_show.proofs.Reading.{members-all, members-more, members-none}
use Rattle.doslib_show.proofs.showing.show.Goals as goal

pub loop-member-init : goal.loop-member-init
loop-member-init g c =
    members-none _ _ _ (rw c.new.ensures.items at c.in_ok-push_title.ensures) c.new-2.ensures.items

pub loop-member-preserved : goal.loop-member-preserved
loop-member-preserved g c =
    let here : c.loop-member.member-index < length c.args.members.now = search rules in
    members-more _ _ c.args.members.now c.loop-member.member-index _ _ _ here c.loop-member.invariant
    c.in_ok-add_member.ensures

pub returns : goal.returns
returns g c =
    members-all _ _ c.args.members.now c.loop-member.member-index _ c.loop-member-test.false c.loop-member.invariant
