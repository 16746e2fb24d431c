use Rattle.std.proofs.Common.{◌≡◌, length}
use Rattle.omf_comdat.specs.Comdats.{records_said}
use Rattle.omf_comdat.specs.Fates as spec
use Rattle.omf_comdat.specs.inside.Held.{AreKeyed, firsts_said, standing_said}
use Rattle.omf_comdat.proofs.fates.module_fates.Given as goal

abbrev pub invariant-loop-from : goal.invariant-loop-from
invariant-loop-from g l = record {
  keyed : AreKeyed l.fn.names l.standing.firsts.entries;
  all : spec.walked l.fn.names l.fn.index l.fates.items (standing_said l.standing) (records_said l.from)
      ≡ spec.module_fates l.fn.names l.fn.index (firsts_said l.initial.standing.firsts.entries)
      (records_said l.fn.records);
}

abbrev pub decreases-loop-from : goal.decreases-loop-from
decreases-loop-from g l = length l.from
