use Rattle.std.proofs.Common.{◌∙◌, ap, cond, true}
use Rattle.indexmap.specs.IndexSet.{contains}
use Rattle.omf_keys.specs.Keys.{key_of, same_key}
use Rattle.omf_communal.proofs.far.push_first.Goals as goal

pub returns-clause-met : goal.returns-clause-met
returns-clause-met g c = λ q.
    c.in_ok-insert.ensures.updates.0 (key_of c.args.names q)
    ∙ ap (λ k. cond (same_key k (key_of c.args.names q)) true (contains same_key c.args.met.now (key_of c.args.names q)))
    c.new.ensures
