use Rattle.std.proofs.Common.{◌≡◌, ◌++◌, ℕ, List, [], drop, map, take}
use Rattle.std.specs.Borrow.{Bor}
use Rattle.doslib_names.specs.Names.{doubled_behind, first_offer}
use Rattle.doslib_names.specs.inside.First.{doubled_said, first_by, offer_said}
use Rattle.doslib_names.proofs.Offers.{by_of}
use Rattle.doslib_names.proofs.doubled.all_doubled.Given as goal

abbrev pub invariant-loop-offer : goal.invariant-loop-offer
invariant-loop-offer g l = record {
  met : (q : Bor (List ℕ)) → first_by l.names l.met q
      ≡ by_of (first_offer l.names (map offer_said (take l.offer-index l.offers)) q.now);
  doubled : map doubled_said l.doubled.items
      ++ doubled_behind l.names (map offer_said (take l.offer-index l.offers))
      (map offer_said (drop l.offer-index l.offers))
      ≡ doubled_behind l.names [] (map offer_said l.offers);
}
