use Rattle.std.proofs.Common.{◌≡◌, ℕ, List, Bor, take}
use Rattle.std.specs.BTreeSet.{contains}
use Rattle.std.specs.Ordering.{nat_cmp}
use Rattle.omf_library.specs.inside.Others.{bytes_cmp, has_name_at}
use Rattle.omf_library.specs.Said.{externals_said}
use Rattle.omf_library.proofs.defaults.other_names.Given as goal

abbrev pub invariant-loop-before : goal.invariant-loop-before
invariant-loop-before g l =
    (q : Bor (List ℕ)) → contains bytes_cmp l.names q
    ≡ has_name_at (contains nat_cmp l.fn.indexes) q.now 1 (externals_said (take l.before l.fn.externals))
