use Rattle.std.proofs.Common.{◌≡◌, map, take}
use Rattle.doslink_words.specs.Said.{item_of}
use Rattle.doslink_passes.specs.Orders.{item_said}
use Rattle.doslink_passes.proofs.ordering.items_of.Given as goal

abbrev pub invariant-loop-each : goal.invariant-loop-each
invariant-loop-each g l = map item_said l.items.items ≡ map item_of (take l.each-index l.fn.list)
