use Rattle.std.proofs.Common.{◌≡◌, false, length, nat_lt, take}
use Rattle.std.specs.List.{list_any}
use Rattle.doslink_jobs.proofs.warnings.has_data.Given as goal

abbrev pub invariant-loop-index : goal.invariant-loop-index
invariant-loop-index g l = list_any (λ r. nat_lt 0 (length r.pairs)) (take l.index l.one.data_records) ≡ false
