use Rattle.std.proofs.Common.{◌∙◌, ap, arith, map}
use Rattle.std.proofs.lemmas.List.{take_all}
use Rattle.omf_communal.specs.Modules.{is_offered, module_said}
use Rattle.indexmap.specs.IndexSet.{contains}
use Rattle.omf_keys.specs.Keys.{key_of, same_key}
use Rattle.omf_communal.proofs.Listing.{offers-turn}
use Rattle.omf_communal.proofs.modules.offered_names.Goals as goal

pub loop-declaring-preserved : goal.loop-declaring-preserved
loop-declaring-preserved g c = λ q.
    offers-turn c.args.names q.now c.args.modules.now c.loop-declaring.declaring-index c.declaring-item.result
    (contains same_key c.loop-declaring.offered (key_of c.args.names q))
    (contains same_key c.insert_offered.new.offered (key_of c.args.names q)) c.loop-declaring-test.true
    c.declaring-item.is (c.loop-declaring.invariant q) (c.in_ok-insert_offered.ensures q)

pub returns : goal.returns
returns g c = λ q.
    c.loop-declaring.invariant q
    ∙ ap (λ ms. is_offered c.args.names (map module_said ms) q.now)
    (take_all c.loop-declaring.declaring-index c.args.modules.now (omega arith))
