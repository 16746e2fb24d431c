use Rattle.std.proofs.Common.{◌≡◌, length}
use Rattle.omf_comdat.specs.Comdats.{records_said}
use Rattle.omf_comdat.specs.Fates as spec
use Rattle.omf_comdat.proofs.wholes.same_data.Given as goal

abbrev pub invariant-loop-rest : goal.invariant-loop-rest
invariant-loop-rest l =
    spec.same_data (records_said l.rest) (records_said l.left)
    ≡ spec.same_data (records_said l.fn.one) (records_said l.fn.other)

abbrev pub decreases-loop-rest : goal.decreases-loop-rest
decreases-loop-rest l = length l.rest
