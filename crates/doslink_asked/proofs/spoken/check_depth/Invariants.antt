use Rattle.std.proofs.Common.{take}
use Rattle.doslink_asked.specs.Spoken.{NameNone}
use Rattle.doslink_asked.specs.inside.Spoken.{said_lines}
use Rattle.doslink_asked.proofs.spoken.check_depth.Given as goal

abbrev pub invariant-loop-line : goal.invariant-loop-line
invariant-loop-line l = NameNone (said_lines (take l.line-index l.lines))
