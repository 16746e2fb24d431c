use Rattle.std.proofs.Common.{◌≡◌, take}
use Rattle.indexmap.specs.IndexMap.{get}
use Rattle.omf_place.proofs.FirstMet.{place_from}
use Rattle.omf_order.proofs.firsts.places_met.Given as goal

abbrev pub invariant-loop-place : goal.invariant-loop-place
invariant-loop-place g l =
    (q : g.row.K.Denot) → get g.K.PartialEq.eq l.met q ≡ place_from 0 (g.K.PartialEq.eq q) (take l.place l.keys)
