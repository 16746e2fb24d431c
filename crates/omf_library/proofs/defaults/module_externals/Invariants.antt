use Rattle.std.proofs.Common.{◌≡◌, ◌++◌, drop, map}
use Rattle.omf_frame.specs.Lending.{plain_frame}
use Rattle.omf_library.specs.Listed.{said_by}
use Rattle.omf_library.specs.Names.{texts}
use Rattle.omf_library.specs.Said.{externals_said}
use Rattle.omf_library.specs.Defaults.{record_externals, module_externals}
use Rattle.omf_library.proofs.defaults.module_externals.Given as goal

abbrev pub invariant-loop-frame : goal.invariant-loop-frame
invariant-loop-frame g l =
    externals_said l.externals.items
    ++ said_by record_externals (texts l.listed.items) (map plain_frame (drop l.frame-index l.fn.frames))
    ≡ module_externals (map plain_frame l.fn.frames)
