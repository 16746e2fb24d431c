use Rattle.std.proofs.Common.{◌∙◌}
use Rattle.omf_order.proofs.Selecting.{found_in_group}
use Rattle.omf_order.proofs.planning.place_in_group.Goals as goal

pub returns : goal.returns
returns c = c.find_part.ensures.place ∙ found_in_group c.args.class.now c.args.parts.now
