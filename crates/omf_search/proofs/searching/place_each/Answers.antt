use Rattle.std.proofs.Common.{arith, map, subst}
use Rattle.std.proofs.lemmas.List.{take_all}
use Rattle.omf_search.specs.Keys.{value_of}
use Rattle.omf_search.specs.Results.{wanted_said}
use Rattle.omf_search.specs.Searching.{HasPlaces}
use Rattle.omf_search.proofs.GoingBack.{place-turn}
use Rattle.omf_search.proofs.searching.place_each.Goals as goal

pub loop-place-preserved : goal.loop-place-preserved
loop-place-preserved g c = λ was q.
    place-turn c.args.names q c.args.wanted.now c.loop-place.place _ (value_of c.args.names c.loop-place.places q)
    (value_of c.args.names c.add.new.self q) c.loop-place-test.true (c.loop-place.invariant was q)
    (c.in_ok-add.ensures.values q)

pub returns : goal.returns
returns g c = λ was.
    subst (λ l. HasPlaces c.args.names (map wanted_said l) c.loop-place.places)
    (take_all c.loop-place.place c.args.wanted.now (omega arith)) (c.loop-place.invariant was)
