use Rattle.std.proofs.Common.{List, arith, map, subst}
use Rattle.std.proofs.lemmas.List.{take_all}
use Rattle.omf_place.specs.declared.names.Names.TheVariants.{AsciiFolded}
use Rattle.omf_search.specs.declared.likeness.Offered.{Offered}
use Rattle.omf_search.specs.Keys.{value_of}
use Rattle.omf_search.specs.inside.Likeness.{IsIndex}
use Rattle.omf_search.specs.Results.{offered_said}
use Rattle.omf_search.proofs.LikeSteps.{index-turn}
use Rattle.omf_search.proofs.likeness.index_likeness.Goals as goal

pub loop-place-preserved : goal.loop-place-preserved
loop-place-preserved g c = λ q.
    index-turn q.now c.args.offered.now c.loop-place.place _ (value_of AsciiFolded c.loop-place.places q)
    (value_of AsciiFolded c.add_place.new.places q) c.loop-place-test.true (c.loop-place.invariant q) (c.in_ok-add_place.ensures q)

pub loop-place-init : goal.loop-place-init
loop-place-init g c = λ q. c.new-places.ensures.none AsciiFolded q

pub returns : goal.returns
returns g c =
    subst (λ (os : List Offered). IsIndex (map offered_said os) c.loop-place.places)
    (take_all c.loop-place.place c.args.offered.now (omega arith)) c.loop-place.invariant
