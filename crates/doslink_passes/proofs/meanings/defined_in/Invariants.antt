use Rattle.std.proofs.Common.{◌≡◌, map, take}
use Rattle.std.specs.List.{flat_map}
use Rattle.omf_search.specs.Results.{module_said}
use Rattle.doslink_passes.specs.inside.Defined.{defined_names, names_held}
use Rattle.doslink_passes.proofs.meanings.defined_in.Given as goal

abbrev pub invariant-loop-each : goal.invariant-loop-each
invariant-loop-each g l =
    names_held l.held.items ≡ flat_map defined_names (map module_said (take l.each-index l.fn.says))
