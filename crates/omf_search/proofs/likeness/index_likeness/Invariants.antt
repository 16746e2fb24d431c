use Rattle.std.proofs.Common.{map, take}
use Rattle.omf_search.specs.inside.Likeness.{IsIndex}
use Rattle.omf_search.specs.Results.{offered_said}
use Rattle.omf_search.proofs.likeness.index_likeness.Given as goal

abbrev pub invariant-loop-place : goal.invariant-loop-place
invariant-loop-place g l = IsIndex (map offered_said (take l.place l.offered)) l.places
