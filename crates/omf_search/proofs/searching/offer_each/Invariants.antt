use Rattle.std.proofs.Common.{◌≡◌, ℕ, List, Some, None, cond, take}
use Rattle.std.specs.Borrow.{Bor}
use Rattle.std.specs.List.{list_any}
use Rattle.std.specs.Option.{option_or}
use Rattle.omf_place.specs.Names.{agrees}
use Rattle.omf_search.specs.Keys.{value_of}
use Rattle.omf_search.specs.Results.{bytes_of}
use Rattle.omf_search.proofs.searching.offer_each.Given as goal

abbrev pub invariant-loop-name : goal.invariant-loop-name
invariant-loop-name g l = (q : Bor (List ℕ)) → value_of l.fn.names l.offers q ≡
    option_or (value_of l.fn.names l.initial.offers q)
    (cond (list_any (agrees l.fn.names q.now) (bytes_of (take l.name-index l.fn.says.offered.now))) (Some l.fn.place) None)
