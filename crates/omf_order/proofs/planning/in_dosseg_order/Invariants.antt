use Rattle.std.proofs.Common.{◌≡◌, take}
use Rattle.omf_order.specs.Keys.{dosseg_key}
use Rattle.omf_order.specs.inside.Held.{part_view}
use Rattle.omf_order.proofs.ByKey.{keyed}
use Rattle.omf_order.proofs.planning.in_dosseg_order.Given as goal

abbrev pub invariant-loop-part : goal.invariant-loop-part
invariant-loop-part g l = l.keyed.items ≡ keyed part_view (dosseg_key l.adds_bss) (take l.part-index l.parts)
