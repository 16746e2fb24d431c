use Rattle.std.proofs.Common.{length}
use Rattle.omf_library.specs.Names.{texts}
use Rattle.omf_library.specs.inside.Views.{entry_front}
use Rattle.omf_library.proofs.Listing.{EntriesLeft}
use Rattle.omf_library.proofs.entries.push_names.Given as goal

abbrev pub invariant-loop-name : goal.invariant-loop-name
invariant-loop-name g l =
    EntriesLeft (entry_front l.entry) (λ xs. xs) l.bytes l.rest (texts l.initial.names.items) (texts l.names.items)

abbrev pub decreases-loop-name : goal.decreases-loop-name
decreases-loop-name g l = length l.rest
