use Rattle.omf_image.proofs.Readiness.{ready}
use Rattle.omf_image.proofs.overflow.start_overflow.Goals as goal

pub overflow_at_start-requires : goal.overflow_at_start-requires
overflow_at_start-requires g c =
    (ready c.args.modules.now c.args.layout.now c.all_promise.ensures c.requires).starts
