use Rattle.std.proofs.Common.{map, take}
use Rattle.omf_comdat.specs.Told.{modules_said}
use Rattle.doslink_passes.specs.Comdats.{AreRecordsOf}
use Rattle.doslink_passes.proofs.comdats.records_of.Given as goal

abbrev pub invariant-loop-one : goal.invariant-loop-one
invariant-loop-one g l =
    AreRecordsOf (map (λ g. g.bytes.now) (take l.one-index l.fn.given)) (modules_said l.all.items)
