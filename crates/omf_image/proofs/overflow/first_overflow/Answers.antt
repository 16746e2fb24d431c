use Rattle.omf_image.proofs.Readiness.{ready}
use Rattle.omf_image.proofs.overflow.first_overflow.Goals as goal

pub overflow_among-requires : goal.overflow_among-requires
overflow_among-requires g c = (ready c.args.modules.now c.args.layout.now c.all_promise.ensures c.requires).records
