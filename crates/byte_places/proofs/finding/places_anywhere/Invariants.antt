use Rattle.std.proofs.Common.{◌≡◌, ◌≤◌, length}
use Rattle.byte_places.specs.Places.{stands}
use Rattle.byte_places.proofs.Listing.{below}
use Rattle.byte_places.proofs.finding.places_anywhere.Given as goal

abbrev pub invariant-loop-place : goal.invariant-loop-place
invariant-loop-place g l = record {
  found : l.found.items ≡ below (stands l.fn.search.pattern.now l.fn.search.alignment l.fn.image) l.place;
  few : length l.found.items ≤ l.fn.search.limit;
}
