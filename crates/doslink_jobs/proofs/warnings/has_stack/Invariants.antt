use Rattle.std.proofs.Common.{◌≡◌, false, take}
use Rattle.std.specs.List.{list_any}
use Rattle.doslink_jobs.specs.inside.Warnings.{holds_stack}
use Rattle.doslink_jobs.proofs.warnings.has_stack.Given as goal

abbrev pub invariant-loop-index : goal.invariant-loop-index
invariant-loop-index g l = list_any holds_stack (take l.index l.one.segments) ≡ false
