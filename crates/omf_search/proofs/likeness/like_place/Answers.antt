use Rattle.std.proofs.Common.{sym, ◌∙◌}
use Rattle.omf_search.specs.inside.Likeness.{lesser}
use Rattle.omf_search.proofs.LikeSteps.{behind-is, like_with, like_without}
use Rattle.omf_search.proofs.likeness.like_place.Goals as goal

pub returns-in-Some : goal.returns-in-Some
returns-in-Some g c = λ os index.
    let whole = c.get-whole.ensures ∙ index c.args.name in
    let rest = c.get.ensures ∙ index c.in-Some.rest in
    c.lesser.ensures ∙ (λ j. lesser (whole j) (rest j))
    ∙ like_with c.args.name.now c.in-Some.rest.now os
    (behind-is c.args.name.now c.in-Some.rest.now (sym c.in-Some.ensures))

pub returns-in-None : goal.returns-in-None
returns-in-None g c = λ os index.
    c.get-whole.ensures ∙ index c.args.name
    ∙ like_without c.args.name.now os (sym c.in-None.ensures)
