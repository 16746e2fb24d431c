use Rattle.std.proofs.Common.{◌≡◌, ℕ, List, filter, map, take}
use Rattle.std.specs.Borrow.{Bor}
use Rattle.std.specs.List.{list_any}
use Rattle.indexmap.specs.IndexSet.{contains}
use Rattle.omf_module.specs.Module.{ExternalSymbol}
use Rattle.omf_place.specs.Names.{agrees}
use Rattle.omf_communal.specs.Far.{is_reached}
use Rattle.omf_communal.specs.Modules.{bytes_of}
use Rattle.omf_keys.specs.Keys.{key_of, same_key}
use Rattle.omf_communal.proofs.far.reached_in.Given as goal

abbrev pub invariant-loop-index : goal.invariant-loop-index
invariant-loop-index g l = (list : List (List ℕ)) →
    ((q : Bor (List ℕ)) → contains same_key l.fn.far (key_of l.fn.names q) ≡ list_any (agrees l.fn.names q.now) list) →
    bytes_of l.reached.items ≡
    map (λ (e : ExternalSymbol). e.name) (filter (is_reached l.fn.names list l.from) (take l.index l.from.externals))
