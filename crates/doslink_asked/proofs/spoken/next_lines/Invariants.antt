use Rattle.std.proofs.Common.{take}
use Rattle.doslink_asked.specs.Spoken.{StandForAll}
use Rattle.doslink_asked.specs.inside.Spoken.{said_lines}
use Rattle.doslink_asked.proofs.spoken.next_lines.Given as goal

abbrev pub invariant-loop-line : goal.invariant-loop-line
invariant-loop-line g l =
    StandForAll (g.W.World.bytes l.fn.world) (said_lines (take l.line-index l.fn.lines)) (said_lines l.next.items)
