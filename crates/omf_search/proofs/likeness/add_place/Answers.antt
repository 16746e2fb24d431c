use Rattle.std.proofs.Common.{sym}
use Rattle.omf_search.proofs.LikeSteps.{placed_both}
use Rattle.omf_search.proofs.likeness.add_place.Goals as goal

pub returns-in_ok-add-2 : goal.returns-in_ok-add-2
returns-in_ok-add-2 g c = λ q.
    placed_both q.now c.args.name.now c.in-Some.rest.now c.args.place _ _ _ (sym c.in-Some.ensures)
    (c.in_ok-add.ensures.values q) (c.in_ok-add-2.ensures.values q)
