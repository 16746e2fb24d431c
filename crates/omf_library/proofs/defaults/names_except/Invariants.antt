use Rattle.std.proofs.Common.{◌≡◌, filter, not, take}
use Rattle.omf_library.specs.Defaults.{is_theirs}
use Rattle.omf_library.specs.Names.{texts}
use Rattle.omf_library.specs.Said.{all_defaulted}
use Rattle.omf_library.specs.Said.{externals_said}
use Rattle.omf_library.proofs.defaults.names_except.Given as goal

abbrev pub invariant-loop-name : goal.invariant-loop-name
invariant-loop-name g l =
    texts l.kept.items
    ≡ filter (λ name. not (is_theirs (all_defaulted l.fn.marked) (externals_said l.fn.externals) name))
    (texts (take l.name-index l.fn.names))
