use Rattle.std.proofs.Common.{◌≡◌, ◌≤◌, drop, length}
use Rattle.std.specs.Cmp.Lexicographic.{slice_cmp}
use Rattle.std.specs.Ordering.{nat_cmp}
use Rattle.omf_place.specs.inside.Named.{folded}
use Rattle.omf_keys.proofs.key.folded_order.Given as goal

abbrev pub invariant-loop-at : goal.invariant-loop-at
invariant-loop-at l =
    (length l.one ≡ length l.other) × (l.at ≤ length l.one) ×
    (slice_cmp nat_cmp (folded (drop l.at l.one)) (folded (drop l.at l.other))
    ≡ slice_cmp nat_cmp (folded l.one) (folded l.other))
