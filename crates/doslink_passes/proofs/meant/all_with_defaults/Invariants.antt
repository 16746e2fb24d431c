use Rattle.std.proofs.Common.{◌≡◌, map, zip}
use Rattle.omf_search.specs.Results.{module_said}
use Rattle.doslink_link.specs.Linking.{bytes_of}
use Rattle.doslink_passes.specs.Meant.{with_defaults}
use Rattle.doslink_passes.proofs.meant.all_with_defaults.Given as goal

abbrev pub invariant-loop-one : goal.invariant-loop-one
invariant-loop-one g l =
    l.all.items ≡ map (with_defaults l.fn.meanings.names (map module_said l.fn.meanings.says.now))
    (zip (bytes_of l.fn.inputs) l.yielded)
