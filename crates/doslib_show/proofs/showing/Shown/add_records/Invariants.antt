use Rattle.std.proofs.Common.{map, take}
use Rattle.omf_frame.specs.Lending.{plain_frame}
use Rattle.doslib_show.proofs.Reading.{ReadSoFar}
use Rattle.doslib_show.proofs.showing.Shown.add_records.Given as goal

abbrev pub invariant-loop-frame : goal.invariant-loop-frame
invariant-loop-frame g l =
    ReadSoFar l.path l.begin (map plain_frame (take l.frame-index l.frames)) l.names l.initial.self l.self
