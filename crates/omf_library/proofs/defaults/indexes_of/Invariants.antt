use Rattle.std.proofs.Common.{◌≡◌, ℕ, take}
use Rattle.std.specs.BTreeSet.{contains}
use Rattle.std.specs.Ordering.{nat_cmp}
use Rattle.omf_library.specs.Defaults.{is_index_of}
use Rattle.omf_library.specs.Said.{all_defaulted}
use Rattle.omf_library.proofs.defaults.indexes_of.Given as goal

abbrev pub invariant-loop-one : goal.invariant-loop-one
invariant-loop-one g l =
    (q : ℕ) → contains nat_cmp l.indexes q ≡ is_index_of (all_defaulted (take l.one-index l.marked)) q
