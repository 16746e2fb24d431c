use Rattle.std.proofs.Common.{map, ◌∙◌}
use Rattle.omf_search.specs.Likeness.{is_like}
use Rattle.omf_search.specs.Results.{offered_said}
use Rattle.omf_search.proofs.LikeSteps.{item-copied, like_found, like_unfound}
use Rattle.omf_search.proofs.likeness.like_of.Goals as goal

pub returns-in-Some : goal.returns-in-Some
returns-in-Some g c = λ index.
    like_found (λ o. is_like c.args.name.now o.name) c.args.offered.now c.in-Some.place c.copied.result
    (c.copied.ensures
    ∙ item-copied c.args.offered.now c.in-Some.place c.get.result c.get.ensures.lookup.1 c.get.ensures.lookup.3)
    (c.in-Some.ensures (map offered_said c.args.offered.now) index)

pub returns-in-None : goal.returns-in-None
returns-in-None g c =
    λ index.
    like_unfound (λ o. is_like c.args.name.now o.name) c.args.offered.now
    (c.in-None.ensures (map offered_said c.args.offered.now) index)
