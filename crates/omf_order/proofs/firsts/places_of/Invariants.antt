use Rattle.std.proofs.Common.{◌≡◌, map, take}
use Rattle.std.specs.List.{position_or_len}
use Rattle.omf_order.proofs.firsts.places_of.Given as goal

abbrev pub invariant-loop-key : goal.invariant-loop-key
invariant-loop-key g l =
    l.places.items ≡ map (λ k. position_or_len (g.K.PartialEq.eq k) l.known) (take l.key-index l.asked)
