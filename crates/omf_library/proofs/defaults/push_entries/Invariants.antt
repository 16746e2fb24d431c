use Rattle.std.proofs.Common.{length}
use Rattle.omf_library.specs.Names.{texts}
use Rattle.omf_library.specs.Said.{externals_said}
use Rattle.omf_library.specs.Defaults.{any_external_front}
use Rattle.omf_library.proofs.Listing.{EntriesLeft}
use Rattle.omf_library.proofs.defaults.push_entries.Given as goal

abbrev pub invariant-loop-name : goal.invariant-loop-name
invariant-loop-name g l =
    EntriesLeft (any_external_front (texts l.listed) l.kind) (λ xs. xs) l.body l.rest
    (externals_said l.initial.externals.items) (externals_said l.externals.items)

abbrev pub decreases-loop-name : goal.decreases-loop-name
decreases-loop-name g l = length l.rest
