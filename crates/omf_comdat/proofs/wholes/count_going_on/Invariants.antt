use Rattle.std.proofs.Common.{◌≡◌, ◌≤◌, ◌-◌, ◌++◌, length, take, drop}
use Rattle.omf_comdat.specs.Comdats.{records_said}
use Rattle.omf_comdat.specs.Fates as spec
use Rattle.omf_comdat.proofs.wholes.count_going_on.Given as goal

abbrev pub invariant-loop-count : goal.invariant-loop-count
invariant-loop-count l = record {
  within : l.count ≤ length l.behind;
  all : records_said (take l.count l.behind) ++ spec.going_on l.name (records_said (drop l.count l.behind))
      ≡ spec.going_on l.name (records_said l.behind);
}

abbrev pub decreases-loop-count : goal.decreases-loop-count
decreases-loop-count l = length l.behind - l.count
