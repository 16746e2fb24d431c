use Rattle.std.proofs.Common.{◌≡◌, map, take}
use Rattle.omf_order.specs.Keys.{key_by}
use Rattle.omf_order.specs.inside.Held.{part_view, selector_view}
use Rattle.omf_order.proofs.ByKey.{keyed}
use Rattle.omf_order.proofs.planning.keyed_parts.Given as goal

abbrev pub invariant-loop-part : goal.invariant-loop-part
invariant-loop-part g l =
    l.keyed.items ≡ keyed part_view (key_by (map selector_view l.selectors)) (take l.part-index l.parts)
