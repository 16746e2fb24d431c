use Rattle.std.proofs.Common.{map, take}
use Rattle.omf_search.specs.Taken.{IsTaken}
use Rattle.omf_search.specs.Results.{module_said}
use Rattle.omf_search.proofs.taken.Taken.collect.Given as goal

abbrev pub invariant-loop-index : goal.invariant-loop-index
invariant-loop-index g l = IsTaken l.fn.names (map module_said (take l.index l.modules)) l.taken
