use Rattle.std.proofs.Common.{sym, ◌∙◌}
use Rattle.omf_module.specs.Seen.{public_seen}
use Rattle.omf_module.proofs.Lists.{drop_at_some}
use Rattle.omf_module.proofs.lookups.PublicsIterator.next.Goals as goal

pub returns-then-self-public_symbol_count-clause-steps : goal.returns-then-self-public_symbol_count-clause-steps
returns-then-self-public_symbol_count-clause-steps g c =
    sym c.self.view_is
    ∙ drop_at_some c.self.inside.«module».now.publics c.self.inside.next (public_seen c.public_symbol-item.result)
    c.public_symbol-item.ensures
