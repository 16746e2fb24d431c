use Rattle.std.proofs.Common.{length}
use Rattle.omf_library.specs.Aliases.{alias_entry_front}
use Rattle.omf_library.specs.Said.{aliases_said}
use Rattle.omf_library.proofs.Listing.{EntriesLeft}
use Rattle.omf_library.proofs.aliases.push_entries.Given as goal

abbrev pub invariant-loop-alias : goal.invariant-loop-alias
invariant-loop-alias g l =
    EntriesLeft (alias_entry_front l.place) (λ xs. xs) l.body l.rest (aliases_said l.initial.aliases.items)
    (aliases_said l.aliases.items)

abbrev pub decreases-loop-alias : goal.decreases-loop-alias
decreases-loop-alias g l = length l.rest
