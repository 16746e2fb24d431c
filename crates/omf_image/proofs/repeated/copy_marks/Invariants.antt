use Rattle.std.proofs.Common.{◌≡◌, map, take, get_or, false}
use Rattle.omf_image.proofs.repeated.copy_marks.Given as goal

abbrev pub invariant-loop-place : goal.invariant-loop-place
invariant-loop-place g l = l.marks.items ≡ map (λ p. get_or l.stored p false) (take l.place-index l.places)
