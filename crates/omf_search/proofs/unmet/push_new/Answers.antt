use Rattle.std.proofs.Common.{◌∙◌, ap, cond, true}
use Rattle.std.specs.BTreeSet.{contains}
use Rattle.omf_search.specs.inside.Met.{wanted_order}
use Rattle.omf_search.proofs.Distinct.{wanted_stands}
use Rattle.omf_search.proofs.unmet.push_new.Goals as goal

pub returns-clause-met : goal.returns-clause-met
returns-clause-met g c = λ k.
    c.in_ok-insert.ensures.updates.0 k
    ∙ ap (λ b. cond b true (contains wanted_order c.args.met.now k)) (wanted_stands c.args.key k)
