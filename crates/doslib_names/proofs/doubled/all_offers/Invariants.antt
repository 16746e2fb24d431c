use Rattle.std.proofs.Common.{◌≡◌, ◌++◌, drop, map}
use Rattle.omf_search.specs.Results.{needs_said}
use Rattle.doslib_names.specs.Names.{offers_from}
use Rattle.doslib_names.specs.inside.First.{offer_said}
use Rattle.doslib_names.proofs.doubled.all_offers.Given as goal

abbrev pub invariant-loop-index : goal.invariant-loop-index
invariant-loop-index g l =
    map offer_said l.offers.items ++ offers_from l.index (map needs_said (drop l.index l.names))
    ≡ offers_from 0 (map needs_said l.names)
