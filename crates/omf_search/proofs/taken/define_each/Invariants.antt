use Rattle.std.proofs.Common.{◌≡◌, ◌||◌, ℕ, List, is_some, take}
use Rattle.std.specs.Borrow.{Bor}
use Rattle.std.specs.List.{list_any}
use Rattle.omf_place.specs.Names.{agrees}
use Rattle.omf_search.specs.Keys.{value_of}
use Rattle.omf_search.specs.Results.{bytes_of}
use Rattle.omf_search.proofs.taken.define_each.Given as goal

abbrev pub invariant-loop-name : goal.invariant-loop-name
invariant-loop-name g l = (q : Bor (List ℕ)) → is_some (value_of l.fn.names l.defined q) ≡
    (is_some (value_of l.fn.names l.initial.defined q)
    || list_any (agrees l.fn.names q.now) (bytes_of (take l.name-index l.more)))
