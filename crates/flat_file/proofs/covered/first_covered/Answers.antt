use Rattle.omf_image.proofs.Readiness.{ready}
use Rattle.flat_file.proofs.covered.first_covered.Goals as goal

pub first_among-requires-clause-ready : goal.first_among-requires-clause-ready
first_among-requires-clause-ready g c =
    (ready c.args.modules.now c.args.layout.now c.all_promise.ensures c.requires).records

pub first_among-requires-clause-small : goal.first_among-requires-clause-small
first_among-requires-clause-small g c = c.requires.size
