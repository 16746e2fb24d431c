use Rattle.std.proofs.Common.{◌≡◌, map, take}
use Rattle.omf_module.specs.Grouped.{is_of_class}
use Rattle.omf_module.proofs.grouping.of_class.Given as goal

-- the marks so far
abbrev pub invariant-loop-index : goal.invariant-loop-index
invariant-loop-index g l = l.marks.items ≡ map (is_of_class l.class) (take l.index l.store.segments)
