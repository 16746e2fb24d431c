use Rattle.std.proofs.Common.{◌≡◌, false, take}
use Rattle.std.specs.List.{list_any}
use Rattle.doslink_jobs.specs.inside.Warnings.{has_data}
use Rattle.doslink_jobs.proofs.warnings.have_data.Given as goal

abbrev pub invariant-loop-one : goal.invariant-loop-one
invariant-loop-one g l = list_any has_data (take l.one-index l.modules) ≡ false
