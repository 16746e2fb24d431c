use Rattle.std.proofs.Common.{◌≡◌, length, max}
use Rattle.omf_comdat.specs.Comdats.{records_said}
use Rattle.omf_comdat.specs.Fates as spec
use Rattle.omf_comdat.proofs.wholes.size.Given as goal

abbrev pub invariant-loop-rest : goal.invariant-loop-rest
invariant-loop-rest l = max l.size (spec.size (records_said l.rest)) ≡ spec.size (records_said l.fn.whole)

abbrev pub decreases-loop-rest : goal.decreases-loop-rest
decreases-loop-rest l = length l.rest
