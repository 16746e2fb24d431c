use Rattle.std.proofs.Common.{◌≡◌, false, nat_lt, take}
use Rattle.std.specs.List.{list_any}
use Rattle.doslink_passes.proofs.filled.has_bytes.Given as goal

abbrev pub invariant-loop-index : goal.invariant-loop-index
invariant-loop-index g l = list_any (λ s. nat_lt 0 s.length) (take l.index l.one.segments) ≡ false
