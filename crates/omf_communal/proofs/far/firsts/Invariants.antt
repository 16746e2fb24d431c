use Rattle.std.proofs.Common.{◌≡◌, ℕ, List, take}
use Rattle.std.specs.Borrow.{Bor}
use Rattle.std.specs.List.{list_any}
use Rattle.indexmap.specs.IndexSet.{contains}
use Rattle.omf_place.specs.Names.{agrees}
use Rattle.omf_communal.specs.Far.{firsts}
use Rattle.omf_communal.specs.Modules.{bytes_of}
use Rattle.omf_keys.specs.Keys.{key_of, same_key}
use Rattle.omf_communal.proofs.far.firsts.Given as goal

abbrev pub invariant-loop-name : goal.invariant-loop-name
invariant-loop-name g l = record {
  met : (q : Bor (List ℕ)) → contains same_key l.met (key_of l.fn.names q)
      ≡ list_any (agrees l.fn.names q.now) (bytes_of (take l.name-index l.list));
  found : bytes_of l.firsts.items ≡ firsts l.fn.names (bytes_of (take l.name-index l.list));
}
