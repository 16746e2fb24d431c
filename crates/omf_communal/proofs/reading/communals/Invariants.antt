use Rattle.std.proofs.Common.{◌≡◌, map}
use Rattle.omf_frame.specs.Lending.{plain_frame}
use Rattle.omf_library.specs.Members.{joined}
use Rattle.omf_communal.specs.Reading.{communals_of, plain_communal}
use Rattle.omf_communal.proofs.Entering.{records_left}
use Rattle.omf_communal.proofs.reading.communals.Given as goal

abbrev pub invariant-loop-frame : goal.invariant-loop-frame
invariant-loop-frame g l =
    joined (map plain_communal l.told.items) (records_left l.fn.scope l.frame-items l.frame-index)
    ≡ communals_of l.fn.scope (map plain_frame l.frame-items)
