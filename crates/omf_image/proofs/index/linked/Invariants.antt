use Rattle.std.proofs.Common.{◌≡◌, ℕ, ◌<◌, ◌≤◌, length, get_or}
use Rattle.omf_image.specs.inside.Index.{Chain, Rises}
use Rattle.omf_image.proofs.Chains.{from}
use Rattle.omf_image.proofs.index.linked.Given as goal

abbrev pub invariant-loop-i : goal.invariant-loop-i
invariant-loop-i g l = record {
  inside : l.i ≤ length l.places;
  heads : length l.heads.items ≡ l.end;
  nexts : length l.nexts.items ≡ length l.places;
  rises : Rises l.nexts.items;
  above : (o : ℕ) → o < l.end → l.i ≤ get_or l.heads.items o 0;
  chains : (o : ℕ) → o < l.end → Chain l.nexts.items (get_or l.heads.items o 0) (from o l.places l.i);
}

abbrev pub decreases-loop-i : goal.decreases-loop-i
decreases-loop-i g l = l.i
