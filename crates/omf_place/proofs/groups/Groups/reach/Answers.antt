use Rattle.omf_place.specs.inside.Program.{addresses_of}
use Rattle.omf_place.proofs.GroupSteps.{reach_is}
use Rattle.omf_place.proofs.groups.Groups.reach.Goals as goal

pub returns-in-None : goal.returns-in-None
returns-in-None g c =
    reach_is c.args.self.now.program.now.modules.now (addresses_of c.args.self.now.program.now.stands.now)
    c.args.name.now _ c.in-None.ensures
