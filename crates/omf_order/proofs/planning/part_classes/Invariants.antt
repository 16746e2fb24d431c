use Rattle.std.proofs.Common.{◌≡◌, map, take}
use Rattle.omf_order.specs.declared.parts.Part.{Part}
use Rattle.omf_order.proofs.planning.part_classes.Given as goal

abbrev pub invariant-loop-part : goal.invariant-loop-part
invariant-loop-part g l = l.classes.items ≡ map (λ (p : Part). p.class) (take l.part-index l.parts)
