use Rattle.std.proofs.Common.{sym, ◌∙◌}
use Rattle.omf_module.specs.Seen.{group_seen}
use Rattle.omf_module.proofs.Lists.{drop_at_some}
use Rattle.omf_module.proofs.lookups.GroupsIterator.next.Goals as goal

pub returns-then-self-group_count-clause-steps : goal.returns-then-self-group_count-clause-steps
returns-then-self-group_count-clause-steps g c =
    sym c.self.view_is
    ∙ drop_at_some c.self.inside.«module».now.groups c.self.inside.next (group_seen c.group-item.result)
    c.group-item.ensures
