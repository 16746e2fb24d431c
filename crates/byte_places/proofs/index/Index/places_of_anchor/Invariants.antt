use Rattle.std.proofs.Common.{◌≡◌, ◌-◌, ◌<◌, ◌≤◌, length}
use Rattle.byte_places.specs.Places.{stands}
use Rattle.byte_places.specs.Chains.{word_at}
use Rattle.byte_places.proofs.Listing.{below}
use Rattle.byte_places.proofs.index.Index.places_of_anchor.Given as goal

abbrev pub invariant-loop-at : goal.invariant-loop-at
invariant-loop-at g l = record {
  found : l.walk.found.items
      ≡ below (stands l.fn.search.pattern.now l.fn.search.alignment l.fn.self) (l.at - l.fn.anchor.at);
  few : length l.walk.found.items ≤ l.fn.search.limit;
  within : l.at ≤ length l.fn.self - 1;
  here : l.at < length l.fn.self - 1 → word_at l.fn.self l.at ≡ l.fn.anchor.word;
}

abbrev pub decreases-loop-at : goal.decreases-loop-at
decreases-loop-at g l = length l.fn.self - l.at
