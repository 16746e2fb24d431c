use Rattle.std.proofs.Common.{◌∙◌, ◌||◌, ap, arith}
use Rattle.std.proofs.lemmas.List.{take_all}
use Rattle.std.specs.List.{list_any}
use Rattle.omf_place.specs.Names.{agrees}
use Rattle.omf_communal.specs.Modules.{bytes_of}
use Rattle.indexmap.specs.IndexSet.{contains}
use Rattle.omf_keys.specs.Keys.{key_of, same_key}
use Rattle.omf_communal.proofs.Listing.{offered-turn}
use Rattle.omf_communal.proofs.modules.insert_offered.Goals as goal

pub loop-name-preserved : goal.loop-name-preserved
loop-name-preserved g c = λ q.
    offered-turn c.args.names q _ c.args.more.now c.loop-name.name-index c.new.result
    (contains same_key c.args.offered.now (key_of c.args.names q))
    (contains same_key c.loop-name.offered (key_of c.args.names q))
    (contains same_key c.insert.new.self (key_of c.args.names q))
    c.loop-name-test.true c.new.ensures (c.loop-name.invariant q)
    (c.in_ok-insert.ensures.updates.0 (key_of c.args.names q))

pub returns : goal.returns
returns g c = λ q.
    c.loop-name.invariant q
    ∙ ap (λ ns. contains same_key c.args.offered.now (key_of c.args.names q)
    || list_any (agrees c.args.names q.now) (bytes_of ns))
    (take_all c.loop-name.name-index c.args.more.now (omega arith))
