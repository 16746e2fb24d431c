use Rattle.std.proofs.Common.{◌≡◌, map, take}
use Rattle.omf_order.specs.inside.Held.{part_key}
use Rattle.omf_order.proofs.cleared.part_keys.Given as goal

abbrev pub invariant-loop-part : goal.invariant-loop-part
invariant-loop-part g l = l.keys.items ≡ map part_key (take l.part-index l.parts)
