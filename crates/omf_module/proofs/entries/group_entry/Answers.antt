use Rattle.std.proofs.lemmas.Result.{IfOk-from_err}
use Rattle.omf_module.proofs.entries.group_entry.Goals as goal

pub returns-in_err-members-clause-says : goal.returns-in_err-members-clause-says
returns-in_err-members-clause-says g c = IfOk-from_err c.from_residual.result _ c.from_residual.ensures.0

pub returns-in_err-members-clause-inside : goal.returns-in_err-members-clause-inside
returns-in_err-members-clause-inside g c = IfOk-from_err c.from_residual.result _ c.from_residual.ensures.0

pub returns-clause-inside : goal.returns-clause-inside
returns-clause-inside g c = c.name_piece-name.ensures.inside
