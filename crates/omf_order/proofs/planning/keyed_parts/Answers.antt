use Rattle.std.proofs.Common.{◌∙◌, ap, map, arith}
use Rattle.omf_order.specs.Keys.{key_by}
use Rattle.omf_order.specs.inside.Held.{part_view, selector_view}
use Rattle.omf_order.proofs.ByKey.{keyed}
use Rattle.std.proofs.lemmas.List.{take_all}
use Rattle.omf_order.proofs.planning.keyed_parts.Goals as goal

pub loop-part-init : goal.loop-part-init
loop-part-init g c = c.new-keyed.ensures.items

pub returns : goal.returns
returns g c =
    c.loop-part.invariant
    ∙ ap (keyed part_view (key_by (map selector_view c.args.selectors.now)))
    (take_all c.loop-part.part-index c.args.parts.now (omega arith))
