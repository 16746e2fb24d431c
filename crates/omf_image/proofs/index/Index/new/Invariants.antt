use Rattle.std.proofs.Common.{◌≡◌, ℕ, ◌<◌, length, get_or}
use Rattle.omf_image.specs.inside.Index.{hits_before}
use Rattle.omf_image.proofs.index.Index.new.Given as goal

abbrev pub invariant-loop-place : goal.invariant-loop-place
invariant-loop-place g l = record {
  count : length l.starts.items ≡ l.place;
  starts : (o : ℕ) → o < l.place → get_or l.starts.items o 0 ≡ length (hits_before l.places o);
  positions : l.positions.items ≡ hits_before l.places l.place;
}
