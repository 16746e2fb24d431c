use Rattle.std.proofs.Common.{◌≡◌, ℕ, List, map, take}
use Rattle.std.specs.Borrow.{Bor}
use Rattle.indexmap.specs.IndexSet.{contains}
use Rattle.omf_communal.specs.Modules.{is_offered, module_said}
use Rattle.omf_keys.specs.Keys.{key_of, same_key}
use Rattle.omf_communal.proofs.modules.offered_names.Given as goal

abbrev pub invariant-loop-declaring : goal.invariant-loop-declaring
invariant-loop-declaring g l =
    (q : Bor (List ℕ))
    → contains same_key l.offered (key_of l.fn.names q)
    ≡ is_offered l.fn.names (map module_said (take l.declaring-index l.modules)) q.now
