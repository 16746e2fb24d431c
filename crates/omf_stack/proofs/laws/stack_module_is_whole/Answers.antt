use Rattle.omf_stack.proofs.Whole.{whole}
use Rattle.omf_stack.proofs.laws.stack_module_is_whole.Goals as goal

pub returns : goal.returns
returns c = whole
