use Rattle.std.proofs.Common.{◌∙◌, ap, arith, Some, None, cond}
use Rattle.std.proofs.lemmas.List.{take_all}
use Rattle.std.specs.List.{list_any}
use Rattle.std.specs.Option.{option_or}
use Rattle.omf_place.specs.Names.{agrees}
use Rattle.omf_search.specs.Keys.{value_of}
use Rattle.omf_search.specs.Results.{bytes_of}
use Rattle.omf_search.proofs.TakenSteps.{value-first, value-turn}
use Rattle.omf_search.proofs.searching.offer_each.Goals as goal

pub loop-name-init : goal.loop-name-init
loop-name-init g c = λ q. value-first c.args.place (value_of c.args.names c.args.offers.now q)

pub loop-name-preserved : goal.loop-name-preserved
loop-name-preserved g c = λ q.
    value-turn c.args.names q _ c.args.says.offered.now c.loop-name.name-index c.args.place
    (value_of c.args.names c.args.offers.now q) (value_of c.args.names c.loop-name.offers q)
    (value_of c.args.names c.add.new.self q) c.loop-name-test.true (c.loop-name.invariant q)
    (c.in_ok-add.ensures.values q)

pub returns : goal.returns
returns g c =
    λ q.
    c.loop-name.invariant q
    ∙ ap
    (λ more. option_or (value_of c.args.names c.args.offers.now q)
    (cond (list_any (agrees c.args.names q.now) (bytes_of more)) (Some c.args.place) None))
    (take_all c.loop-name.name-index c.args.says.offered.now (omega arith))
