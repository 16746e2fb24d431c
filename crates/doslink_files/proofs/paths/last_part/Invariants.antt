use Rattle.std.proofs.Common.{◌≡◌, ◌≤◌, drop}
use Rattle.doslink_files.specs.Paths.{behind_last, last_part}
use Rattle.doslink_files.proofs.paths.last_part.Given as goal

abbrev pub invariant-loop-at : goal.invariant-loop-at
invariant-loop-at l =
    record { within : l.start ≤ l.at; behind : last_part l.path ≡ behind_last (drop l.start l.path) (drop l.at l.path) }
