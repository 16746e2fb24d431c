use Rattle.omf_search.proofs.ChoiceLaws.{closed, needed, once}
use Rattle.omf_search.proofs.laws.least_choice.Goals as goal

pub returns-clause-needed : goal.returns-clause-needed
returns-clause-needed c = needed

pub returns-clause-once : goal.returns-clause-once
returns-clause-once c = once

pub returns-clause-closed : goal.returns-clause-closed
returns-clause-closed c = closed
