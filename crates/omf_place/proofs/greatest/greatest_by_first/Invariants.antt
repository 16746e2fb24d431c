use Rattle.std.proofs.Common.{◌≡◌, ℕ, ◌<◌, length, take, get_or}
use Rattle.omf_place.specs.inside.Greatest.{greatest_at}
use Rattle.omf_place.proofs.greatest.greatest_by_first.Given as goal

abbrev pub invariant-loop-i : goal.invariant-loop-i
invariant-loop-i g l = record {
  len : length l.greatest.items ≡ length l.firsts;
  each : (k : ℕ) → k < length l.firsts
      → get_or l.greatest.items k 0 ≡ greatest_at (take l.i l.firsts) (take l.i l.values) k;
}
