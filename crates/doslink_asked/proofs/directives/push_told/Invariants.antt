use Rattle.std.proofs.Common.{◌≡◌, ◌++◌, drop}
use Rattle.std.specs.List.{flat_map}
use Rattle.doslink_asked.specs.inside.Idle.{idle_line}
use Rattle.doslink_asked.specs.inside.Spoken.{said_lines}
use Rattle.doslink_asked.proofs.directives.push_told.Given as goal

abbrev pub invariant-loop-warning : goal.invariant-loop-warning
invariant-loop-warning l =
    l.lines.items ++ flat_map (idle_line (said_lines l.fn.spoken.lines.items))
    (drop l.warning-index l.fn.told)
    ≡ l.initial.lines.items ++ flat_map (idle_line (said_lines l.fn.spoken.lines.items)) l.fn.told
