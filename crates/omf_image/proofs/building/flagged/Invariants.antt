use Rattle.std.proofs.Common.{◌≡◌, filter, get_or, false}
use Rattle.std.specs.List.{range_with_len}
use Rattle.omf_image.proofs.building.flagged.Given as goal

abbrev pub invariant-loop-address : goal.invariant-loop-address
invariant-loop-address g l = l.addresses.items ≡ filter (λ a. get_or l.flags a false) (range_with_len 0 l.address)
