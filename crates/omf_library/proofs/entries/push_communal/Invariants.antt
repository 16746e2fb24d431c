use Rattle.std.proofs.Common.{length}
use Rattle.std.specs.List.{filter_map}
use Rattle.omf_library.specs.Entries.{communal_front, listed_name}
use Rattle.omf_library.specs.Names.{texts}
use Rattle.omf_library.proofs.Listing.{EntriesLeft}
use Rattle.omf_library.proofs.entries.push_communal.Given as goal

abbrev pub invariant-loop-index : goal.invariant-loop-index
invariant-loop-index g l =
    EntriesLeft communal_front (filter_map (listed_name (texts l.listed))) l.bytes l.rest (texts l.initial.names.items)
    (texts l.names.items)

abbrev pub decreases-loop-index : goal.decreases-loop-index
decreases-loop-index g l = length l.rest
