use Rattle.std.proofs.Common.{◌∙◌, ap, arith, map}
use Rattle.std.proofs.lemmas.List.{take_all}
use Rattle.std.specs.Option.{option_map}
use Rattle.omf_search.specs.inside.Likeness.{like_among}
use Rattle.omf_search.specs.Results.{bytes_of, offered_said}
use Rattle.omf_search.proofs.LikeSteps.{like-turn}
use Rattle.omf_search.proofs.likeness.likes_among.Goals as goal

pub loop-name-preserved : goal.loop-name-preserved
loop-name-preserved g c =
    ap (map (option_map offered_said)) c.in_ok-push.ensures.items
    ∙ like-turn (map offered_said c.args.offered.now) c.args.asked.now c.loop-name.name-index _ c.loop-name.likes.items
    c.like_of.result c.loop-name-test.true c.loop-name.invariant (c.like_of.ensures c.requires)

pub loop-name-init : goal.loop-name-init
loop-name-init g c = ap (map (option_map offered_said)) c.new-likes.ensures.items

pub returns : goal.returns
returns g c =
    c.loop-name.invariant
    ∙ ap (λ names. map (like_among (map offered_said c.args.offered.now)) (bytes_of names))
    (take_all c.loop-name.name-index c.args.asked.now (omega arith))
