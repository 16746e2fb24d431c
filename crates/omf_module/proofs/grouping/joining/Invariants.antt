use Rattle.std.proofs.Common.{◌≡◌, map, take}
use Rattle.std.specs.List.{flat_map}
use Rattle.omf_module.specs.Module.{Group}
use Rattle.omf_module.specs.Grouped.{is_of_class, greatest_index}
use Rattle.omf_module.specs.inside.Grouping.{unmarked}
use Rattle.omf_module.proofs.grouping.joining.Given as goal

-- the marks without those of the members of the groups so far
abbrev pub invariant-loop-index : goal.invariant-loop-index
invariant-loop-index g l =
    l.marks.items
    ≡ unmarked (flat_map (λ (x : Group). x.members) (take l.index l.store.groups))
    (map (is_of_class l.class) (take greatest_index l.store.segments))
