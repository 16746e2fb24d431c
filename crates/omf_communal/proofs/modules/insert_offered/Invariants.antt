use Rattle.std.proofs.Common.{◌≡◌, ◌||◌, ℕ, List, take}
use Rattle.std.specs.Borrow.{Bor}
use Rattle.std.specs.List.{list_any}
use Rattle.indexmap.specs.IndexSet.{contains}
use Rattle.omf_place.specs.Names.{agrees}
use Rattle.omf_communal.specs.Modules.{bytes_of}
use Rattle.omf_keys.specs.Keys.{key_of, same_key}
use Rattle.omf_communal.proofs.modules.insert_offered.Given as goal

abbrev pub invariant-loop-name : goal.invariant-loop-name
invariant-loop-name g l = (q : Bor (List ℕ)) → contains same_key l.offered (key_of l.fn.names q) ≡
    (contains same_key l.initial.offered (key_of l.fn.names q)
    || list_any (agrees l.fn.names q.now) (bytes_of (take l.name-index l.more)))
