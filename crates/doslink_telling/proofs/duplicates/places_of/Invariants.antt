use Rattle.std.proofs.Common.{map, take}
use Rattle.doslink_telling.specs.inside.Duplicates.{IsIndex, public_said}
use Rattle.doslink_telling.proofs.duplicates.places_of.Given as goal

abbrev pub invariant-loop-place : goal.invariant-loop-place
invariant-loop-place g l = IsIndex (map public_said (take l.place l.publics)) l.places
