use Rattle.std.proofs.Common.{◌≡◌, map, take}
use Rattle.doslink_stock.specs.Seen.{handed_held}
use Rattle.doslink_telling.specs.inside.Wanters.{wanter_held}
use Rattle.doslink_telling.proofs.wanting.wanters_of.Given as goal

abbrev pub invariant-loop-each : goal.invariant-loop-each
invariant-loop-each g l = map wanter_held l.wanters.items ≡ map handed_held (take l.each-index l.fn.handed)
