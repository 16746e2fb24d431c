use Rattle.std.proofs.Common.{◌||◌, ◌∙◌, ap, arith, is_some}
use Rattle.std.proofs.lemmas.List.{take_all}
use Rattle.std.specs.List.{list_any}
use Rattle.omf_place.specs.Names.{agrees}
use Rattle.omf_search.specs.Keys.{value_of}
use Rattle.omf_search.specs.Results.{bytes_of}
use Rattle.omf_search.proofs.TakenSteps.{there-turn}
use Rattle.omf_search.proofs.taken.define_each.Goals as goal

pub loop-name-preserved : goal.loop-name-preserved
loop-name-preserved g c = λ q.
    there-turn c.args.names q _ c.args.more.now c.loop-name.name-index tt
    (is_some (value_of c.args.names c.args.defined.now q)) (value_of c.args.names c.loop-name.defined q)
    (value_of c.args.names c.add.new.self q) c.loop-name-test.true (c.loop-name.invariant q)
    (c.in_ok-add.ensures.values q)

pub returns : goal.returns
returns g c =
    λ q.
    c.loop-name.invariant q
    ∙ ap
    (λ more. is_some (value_of c.args.names c.args.defined.now q)
    || list_any (agrees c.args.names q.now) (bytes_of more))
    (take_all c.loop-name.name-index c.args.more.now (omega arith))
