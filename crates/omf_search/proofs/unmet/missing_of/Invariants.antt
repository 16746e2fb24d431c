use Rattle.std.proofs.Common.{List, map, take}
use Rattle.std.specs.BTreeSet.{contains}
use Rattle.omf_search.specs.inside.Met.{wanted_order}
use Rattle.omf_search.specs.Taken.{IsTaken}
use Rattle.omf_search.specs.Results.{wanted_said}
use Rattle.omf_search.specs.Said.{Module}
use Rattle.omf_search.proofs.Distinct.{IsFound, undefined}
use Rattle.omf_search.proofs.unmet.missing_of.Given as goal

abbrev pub invariant-loop-wanted : goal.invariant-loop-wanted
invariant-loop-wanted g l =
    (ms : List Module) → IsTaken l.fn.names ms l.fn.taken
    → IsFound l.fn.names (undefined l.fn.names ms (take l.wanted-index (map wanted_said l.wanted-items)))
    l.missing.items (λ k. contains wanted_order l.met k)
