use Rattle.std.proofs.Common.{◌≡◌, ◌++◌, map, take}
use Rattle.std.specs.List.{flat_map}
use Rattle.omf_frame.specs.Lending.{plain_frame}
use Rattle.omf_library.specs.Said.{all_defaulted}
use Rattle.omf_library.specs.Said.{externals_said}
use Rattle.omf_library.specs.Defaults.{defaulted_in}
use Rattle.omf_library.proofs.defaults.push_defaulted.Given as goal

abbrev pub invariant-loop-frame : goal.invariant-loop-frame
invariant-loop-frame g l =
    all_defaulted l.told.items ≡ all_defaulted l.initial.told.items
    ++ flat_map (defaulted_in l.fn.class (externals_said l.externals.items))
    (map plain_frame (take l.frame-index l.fn.frames))
