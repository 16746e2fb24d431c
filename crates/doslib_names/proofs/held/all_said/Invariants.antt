use Rattle.std.proofs.Common.{◌≡◌, ◌++◌, [], map, take}
use Rattle.omf_search.specs.Results.{module_said, needs_said}
use Rattle.doslib_names.proofs.held.all_said.Given as goal

abbrev pub invariant-loop-each : goal.invariant-loop-each
invariant-loop-each g l = map module_said l.said.items ≡ [] ++ map needs_said (take l.each-index l.names)
