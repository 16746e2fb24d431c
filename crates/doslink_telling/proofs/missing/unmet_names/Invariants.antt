use Rattle.std.proofs.Common.{take}
use Rattle.doslink_telling.proofs.Staying.{AreParted}
use Rattle.doslink_telling.proofs.missing.unmet_names.Given as goal

abbrev pub invariant-loop-each : goal.invariant-loop-each
invariant-loop-each g l = AreParted l.fn.names (take l.each-index l.each-items) l.others.items l.marks
