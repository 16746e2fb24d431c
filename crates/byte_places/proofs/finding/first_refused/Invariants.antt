use Rattle.std.proofs.Common.{◌≡◌, drop}
use Rattle.byte_places.specs.Places.{agrees}
use Rattle.byte_places.proofs.finding.first_refused.Given as goal

abbrev pub invariant-loop-index : goal.invariant-loop-index
invariant-loop-index l =
    agrees (drop l.index l.fn.pattern) (drop l.index l.fn.bytes) ≡ agrees l.fn.pattern l.fn.bytes
