use Rattle.std.proofs.Common.{◌<◌, length, rules}
use Rattle.omf_library.specs.Members.{plain_member}
use Rattle.doslib_match.proofs.Telling.{adds-all, adds-more, adds-none}
use Rattle.doslib_match.proofs.matching.Told.add_members.Goals as goal

pub loop-member-init : goal.loop-member-init
loop-member-init g c = adds-none c.args.sought.now.wanted c.args.sought.now.image.now c.args.path.now c.args.self.now

pub loop-member-preserved : goal.loop-member-preserved
loop-member-preserved g c =
    let here : c.loop-member.member-index < length c.args.members.now = search rules in
    adds-more _ _ _ plain_member c.args.members.now c.loop-member.member-index _ _ _ _ here c.loop-member.invariant
    c.in_ok-add_member.ensures

pub returns : goal.returns
returns g c =
    adds-all _ _ _ plain_member c.args.members.now c.loop-member.member-index _ _ c.loop-member-test.false
    c.loop-member.invariant
