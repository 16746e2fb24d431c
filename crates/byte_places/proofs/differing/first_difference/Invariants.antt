use Rattle.std.proofs.Common.{◌≡◌, take}
use Rattle.byte_places.proofs.differing.first_difference.Given as goal

abbrev pub invariant-loop-place : goal.invariant-loop-place
invariant-loop-place l = take l.place l.fn.first ≡ take l.place l.fn.second
