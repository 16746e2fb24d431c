use Rattle.std.proofs.Common.{ℕ, ◌<◌, ◌≤◌, get_or}
use Rattle.omf_image.proofs.index.end_of.Given as goal

abbrev pub invariant-loop-place : goal.invariant-loop-place
invariant-loop-place l = record {
  above : (k d : ℕ) → k < l.place-index → get_or l.places k d < l.end;
  small : l.end ≤ 65536;
}
