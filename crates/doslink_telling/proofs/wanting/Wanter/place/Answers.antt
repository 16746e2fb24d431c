use Rattle.std.proofs.Common.{◌∙◌}
use Rattle.doslink_telling.proofs.wanting.Wanter.place.Goals as goal

pub returns : goal.returns
returns g c = c.get.ensures ∙ c.args.self.now.first c.args.name
