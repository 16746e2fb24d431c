use Rattle.std.proofs.Common.{◌≡◌, ◌-◌, ◌≤◌, length}
use Rattle.byte_places.specs.Chains.{AreLinked}
use Rattle.byte_places.proofs.building.link.Given as goal

abbrev pub invariant-loop-place : goal.invariant-loop-place
invariant-loop-place l = record {
  counts : length l.counts ≡ 65536;
  within : l.place ≤ length l.image - 1;
  linked : AreLinked l.image l.place l.first l.next;
}

abbrev pub decreases-loop-place : goal.decreases-loop-place
decreases-loop-place l = l.place
