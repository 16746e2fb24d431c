use Rattle.std.proofs.Common.{sym, ◌∙◌}
use Rattle.omf_module.specs.Seen.{external_seen}
use Rattle.omf_module.proofs.Lists.{drop_at_some}
use Rattle.omf_module.proofs.lookups.ExternalsIterator.next.Goals as goal

pub returns-then-self-external_count-clause-steps : goal.returns-then-self-external_count-clause-steps
returns-then-self-external_count-clause-steps g c =
    sym c.self.view_is
    ∙ drop_at_some c.self.inside.«module».now.externals c.self.inside.next (external_seen c.external-item.result)
    c.external-item.ensures
