use Rattle.std.proofs.Common.{◌≡◌, ◌++◌, map, take, drop}
use Rattle.omf_module.specs.Grouped.{fixup_in}
use Rattle.omf_module.proofs.grouping.group_fixups.Given as goal

-- those before the index are changed
abbrev pub invariant-loop-index : goal.invariant-loop-index
invariant-loop-index l =
    l.fixups ≡ map (fixup_in l.joined l.group l.here) (take l.index l.fn.fixups) ++ drop l.index l.fn.fixups
