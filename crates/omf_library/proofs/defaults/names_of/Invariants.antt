use Rattle.std.proofs.Common.{◌≡◌, ℕ, List, Bor, take}
use Rattle.std.specs.BTreeSet.{contains}
use Rattle.omf_library.specs.Defaults.{is_name_of}
use Rattle.omf_library.specs.Said.{all_defaulted}
use Rattle.omf_library.specs.inside.Others.{bytes_cmp}
use Rattle.omf_library.proofs.defaults.names_of.Given as goal

abbrev pub invariant-loop-one : goal.invariant-loop-one
invariant-loop-one g l =
    (q : Bor (List ℕ)) →
    contains bytes_cmp l.names q ≡ is_name_of (all_defaulted (take l.one-index l.marked)) q.now
