use Rattle.std.proofs.Common.{rules, ◌<◌, ◌∙◌, ◌++◌, ap, length, map, sym}
use Rattle.std.proofs.lemmas.List.{map_push}
use Rattle.omf_library.specs.Members.{plain_member}
use Rattle.doslib_names.specs.Said.{held_said}
use Rattle.doslib_names.proofs.Lists.{twice-mapped}
use Rattle.doslib_jobs.specs.Libraries.{held_as}
use Rattle.doslib_jobs.proofs.Libraries.{mapped-all, mapped-more}
use Rattle.doslib_jobs.proofs.naming.push_members.Goals as goal

pub loop-member-preserved : goal.loop-member-preserved
loop-member-preserved g c =
    let here : c.loop-member.member-index < length c.args.members.now = search rules in
    mapped-more (λ m. held_as c.args.path.now c.args.kind (plain_member m)) c.args.members.now
    c.loop-member.member-index _ _ _ _ here
    (ap (map held_said) c.in_ok-push.ensures.items ∙ map_push held_said c.loop-member.held.items _)
    c.loop-member.invariant

pub returns : goal.returns
returns g c =
    mapped-all (λ m. held_as c.args.path.now c.args.kind (plain_member m)) c.args.members.now
    c.loop-member.member-index _ _ c.loop-member-test.false c.loop-member.invariant
    ∙ ap (λ l. map held_said c.args.held.now.items ++ l)
    (sym (twice-mapped (held_as c.args.path.now c.args.kind) plain_member c.args.members.now))
