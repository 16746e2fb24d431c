use Rattle.std.proofs.Common.{◌-◌, length, map, take}
use Rattle.omf_search.specs.Results.{wanted_said}
use Rattle.omf_search.specs.Searching.{HasPlaces}
use Rattle.omf_search.proofs.searching.place_each.Given as goal

abbrev pub invariant-loop-place : goal.invariant-loop-place
invariant-loop-place g l =
    HasPlaces l.fn.names (map wanted_said (take l.fn.first l.fn.wanted)) l.initial.places
    → HasPlaces l.fn.names (map wanted_said (take l.place l.fn.wanted)) l.places

abbrev pub decreases-loop-place : goal.decreases-loop-place
decreases-loop-place g l = length l.fn.wanted - l.place
