use Rattle.omf_image.proofs.Readiness.{ready}
use Rattle.omf_image.proofs.building.build.Goals as goal

pub build_program-requires : goal.build_program-requires
build_program-requires g c = ready c.args.modules.now c.args.layout.now c.all_promise.ensures c.requires
