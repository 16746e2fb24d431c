use Rattle.std.proofs.Common.{◌≡◌, ℕ, ◌<◌, get_or, length}
use Rattle.omf_image.proofs.repeated.stored_bytes.Given as goal

abbrev pub invariant-loop-i : goal.invariant-loop-i
invariant-loop-i g l = record {
  sized : length l.stored.items ≡ l.end;
  copied : (k : ℕ) → k < l.i → get_or l.stored.items (get_or l.places k 0) 0 ≡ get_or l.bytes k 0;
}
