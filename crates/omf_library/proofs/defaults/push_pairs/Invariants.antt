use Rattle.std.proofs.Common.{length}
use Rattle.std.specs.List.{filter_map}
use Rattle.omf_library.specs.Said.{all_defaulted}
use Rattle.omf_library.specs.Said.{externals_said}
use Rattle.omf_library.specs.Defaults.{pair_front, defaulted_of}
use Rattle.omf_library.proofs.Listing.{EntriesLeft}
use Rattle.omf_library.proofs.defaults.push_pairs.Given as goal

abbrev pub invariant-loop-pair : goal.invariant-loop-pair
invariant-loop-pair g l =
    EntriesLeft pair_front (filter_map (defaulted_of (externals_said l.externals) l.place)) l.text l.rest
    (all_defaulted l.initial.told.items) (all_defaulted l.told.items)

abbrev pub decreases-loop-pair : goal.decreases-loop-pair
decreases-loop-pair g l = length l.rest
