use Rattle.std.proofs.Common.{rules, ◌<◌, ◌∙◌, ap, length}
use Rattle.std.proofs.lemmas.List.{map_push}
use Rattle.doslib_words.specs.Words.{texts}
use Rattle.doslib_jobs.proofs.Libraries.{mapped-all, mapped-more}
use Rattle.doslib_jobs.proofs.taking.push_members.Goals as goal

pub loop-member-preserved : goal.loop-member-preserved
loop-member-preserved g c =
    let here : c.loop-member.member-index < length c.args.members.now = search rules in
    mapped-more (λ m. m.bytes.now) c.args.members.now c.loop-member.member-index _ _ _ _ here
    (ap texts c.in_ok-push.ensures.items ∙ map_push (λ x. x.now) c.loop-member.modules.items _)
    c.loop-member.invariant

pub returns : goal.returns
returns g c =
    mapped-all (λ m. m.bytes.now) c.args.members.now c.loop-member.member-index _ _ c.loop-member-test.false
    c.loop-member.invariant
