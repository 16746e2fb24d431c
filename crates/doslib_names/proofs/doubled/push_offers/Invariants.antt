use Rattle.std.proofs.Common.{◌≡◌, ◌++◌, map, take}
use Rattle.doslib_names.specs.Names.{offer_by}
use Rattle.doslib_names.specs.inside.First.{offer_said}
use Rattle.doslib_names.proofs.doubled.push_offers.Given as goal

abbrev pub invariant-loop-name : goal.invariant-loop-name
invariant-loop-name g l =
    map offer_said l.offers.items
    ≡ map offer_said l.initial.offers.items
    ++ map (λ n. offer_by l.fn.offered_by n.now) (take l.name-index l.fn.names)
