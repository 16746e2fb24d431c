use Rattle.std.proofs.Common.{◌≡◌, false, take}
use Rattle.std.specs.List.{list_any}
use Rattle.doslink_jobs.specs.inside.Warnings.{has_stack}
use Rattle.doslink_jobs.proofs.warnings.have_stack.Given as goal

abbrev pub invariant-loop-one : goal.invariant-loop-one
invariant-loop-one g l = list_any has_stack (take l.one-index l.modules) ≡ false
