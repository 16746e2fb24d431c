use Rattle.std.proofs.Common.{◌≡◌, map, take, get_or}
use Rattle.omf_image.proofs.repeated.copied_bytes.Given as goal

abbrev pub invariant-loop-place : goal.invariant-loop-place
invariant-loop-place g l = l.bytes.items ≡ map (λ p. get_or l.image.bytes p 0) (take l.place-index l.places)
