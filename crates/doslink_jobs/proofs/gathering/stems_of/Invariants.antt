use Rattle.std.proofs.Common.{map, take}
use Rattle.doslink_telling.specs.inside.Tables.{IsSetOf}
use Rattle.doslink_jobs.specs.inside.Gathering.{folded_stem}
use Rattle.doslink_jobs.proofs.gathering.stems_of.Given as goal

abbrev pub invariant-loop-name : goal.invariant-loop-name
invariant-loop-name g l = IsSetOf (map (λ n. folded_stem n.now) (take l.name-index l.fn.names)) l.stems
