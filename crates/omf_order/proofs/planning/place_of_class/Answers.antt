use Rattle.std.proofs.Common.{◌∙◌}
use Rattle.omf_order.proofs.Selecting.{found_of_class}
use Rattle.omf_order.proofs.planning.place_of_class.Goals as goal

pub returns-clause-place : goal.returns-clause-place
returns-clause-place c = c.find_part.ensures.place ∙ found_of_class c.args.class.now c.args.parts.now
