use Rattle.std.proofs.Common.{◌∙◌, ap, arith, map}
use Rattle.std.proofs.lemmas.List.{take_all}
use Rattle.omf_search.specs.Likeness.{offered_names}
use Rattle.omf_search.specs.Results.{member_said, module_said, offered_said}
use Rattle.omf_search.proofs.LikeSteps.{member-turn, module-turn, modules_all}
use Rattle.omf_search.proofs.likeness.offered_names.Goals as goal

pub loop-index-preserved : goal.loop-index-preserved
loop-index-preserved g c =
    module-turn c.args.modules.now c.loop-index.index _ (map offered_said c.loop-index.offered.items)
    (map offered_said c.push_offered.new.offered.items) c.loop-index-test.true c.loop-index.invariant
    c.in_ok-push_offered.ensures

pub loop-member-init : goal.loop-member-init
loop-member-init g c =
    modules_all c.args.modules.now c.loop-index.index (map offered_said c.loop-index.offered.items)
    c.loop-index-test.false c.loop-index.invariant

pub loop-member-preserved : goal.loop-member-preserved
loop-member-preserved g c =
    member-turn (map module_said c.args.modules.now) c.args.members.now c.loop-member.member-index _
    (map offered_said c.loop-member.offered.items) (map offered_said c.push_offered-in-loop-member.new.offered.items)
    c.loop-member-test.true c.loop-member.invariant c.in_ok-push_offered-2.ensures

pub loop-index-init : goal.loop-index-init
loop-index-init g c = ap (map offered_said) c.new-offered.ensures.items

pub returns : goal.returns
returns g c =
    c.loop-member.invariant
    ∙ ap (λ bs. offered_names (map module_said c.args.modules.now) (map member_said bs))
    (take_all c.loop-member.member-index c.args.members.now (omega arith))
