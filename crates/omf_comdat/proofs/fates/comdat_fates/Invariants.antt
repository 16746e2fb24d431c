use Rattle.std.proofs.Common.{◌≡◌, drop, map}
use Rattle.omf_comdat.specs.Fates as spec
use Rattle.omf_comdat.specs.Told.{modules_said}
use Rattle.omf_comdat.specs.inside.Held.{AreKeyed, firsts_said}
use Rattle.omf_comdat.proofs.fates.comdat_fates.Given as goal

abbrev pub invariant-loop-records : goal.invariant-loop-records
invariant-loop-records g l = record {
  keyed : AreKeyed l.fn.names l.standing.firsts.entries;
  all : spec.fates_behind l.fn.names (map (λ fates. fates.items) l.told.items)
      (firsts_said l.standing.firsts.entries) (modules_said (drop l.records-index l.modules))
      ≡ spec.fates l.fn.names (modules_said l.modules);
}
