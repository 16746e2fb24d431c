use Rattle.std.proofs.Common.{◌≡◌, map, take, find, None}
use Rattle.std.specs.List.{enumerate_from}
use Rattle.omf_place.specs.inside.HeldNames.{HoldsAll, entry_view}
use Rattle.omf_place.specs.inside.Steps.{repeats}
use Rattle.omf_place.proofs.scopes.index_publics.Given as goal

abbrev pub invariant-loop-entry : goal.invariant-loop-entry
invariant-loop-entry g l = record {
  holds : HoldsAll l.fn.names l.count (map entry_view (take l.entry-index l.entries)) l.scopes;
  apart : find (repeats l.fn.names (map entry_view l.entries))
      (take l.entry-index (enumerate_from 0 (map entry_view l.entries))) ≡ None;
}
