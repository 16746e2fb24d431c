use Rattle.std.proofs.Common.{◌≡◌, map}
use Rattle.omf_module.specs.Grouped.{grouped}
use Rattle.doslink_passes.specs.Meant.{far_data, far_group}
use Rattle.doslink_passes.proofs.meant.all_grouped.Given as goal

abbrev pub invariant-loop-one : goal.invariant-loop-one
invariant-loop-one g l = l.all.items ≡ map (grouped far_data far_group) l.yielded
