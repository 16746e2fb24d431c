use Rattle.std.proofs.Common.{◌≡◌, ◌&&◌, false, not, take}
use Rattle.std.specs.List.{list_any}
use Rattle.omf_module.specs.Module.{ExternalSymbol}
use Rattle.omf_place.specs.Names.{agrees}
use Rattle.omf_order.proofs.marks.is_external.Given as goal

abbrev pub invariant-loop-index : goal.invariant-loop-index
invariant-loop-index g l =
    list_any (λ (e : ExternalSymbol). not e.local && agrees l.names e.name l.name) (take l.index l.from.externals)
    ≡ false
