use Rattle.std.proofs.Common.{◌≡◌, ◌≤◌, drop, length, map}
use Rattle.omf_library.specs.Said.{all_defaulted}
use Rattle.omf_search.specs.Results.{module_said}
use Rattle.doslink_passes.specs.Meant.{meanings_of}
use Rattle.doslink_passes.proofs.meant.meanings_of.Given as goal

abbrev pub invariant-loop-left : goal.invariant-loop-left
invariant-loop-left g l = record {
  within : l.left ≤ length l.fn.defaults;
  indexes : l.indexes.items ≡ meanings_of l.fn.meanings.names (map module_said l.fn.meanings.says.now)
      l.fn.from.externals (all_defaulted (drop l.left l.fn.defaults)) l.fn.count;
}

abbrev pub decreases-loop-left : goal.decreases-loop-left
decreases-loop-left g l = l.left
