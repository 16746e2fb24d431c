use Rattle.std.proofs.Common.{◌≡◌, false, nat_lt, take}
use Rattle.std.specs.List.{list_any}
use Rattle.doslink_passes.proofs.filled.have_bytes.Given as goal

abbrev pub invariant-loop-one : goal.invariant-loop-one
invariant-loop-one g l =
    list_any (λ m. list_any (λ s. nat_lt 0 s.length) m.segments) (take l.one-index l.modules) ≡ false
