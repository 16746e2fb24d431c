use Rattle.std.proofs.Common.{◌≡◌, ◌⊎◌, ℕ, ◌+◌, ◌<◌, ◌≤◌, ◌||◌, get_or, length, false}
use Rattle.omf_image.proofs.repeated.copy_flags.Given as goal

abbrev pub invariant-loop-i : goal.invariant-loop-i
invariant-loop-i l = record {
  sized : length l.flags ≡ length l.initial.flags;
  copied : (k : ℕ) → k < l.i
      → get_or l.flags (l.start + k) false
      ≡ (get_or l.initial.flags (l.start + k) false || get_or l.stored (get_or l.places k 0) false);
  rest : (a : ℕ) → (a < l.start) ⊎ (l.start + l.i ≤ a) → get_or l.flags a false ≡ get_or l.initial.flags a false;
}
