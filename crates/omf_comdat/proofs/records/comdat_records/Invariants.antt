use Rattle.std.proofs.Common.{List, [], ◌++◌, drop, map}
use Rattle.omf_frame.specs.Lending.{plain_frame}
use Rattle.omf_library.specs.Names.{texts}
use Rattle.omf_comdat.specs.Comdats.{AreComdats, ComdatRecord, records_said}
use Rattle.omf_comdat.proofs.records.comdat_records.Given as goal

abbrev pub invariant-loop-frame : goal.invariant-loop-frame
invariant-loop-frame g l = (more : List ComdatRecord) →
    AreComdats (texts l.listed.items) (map plain_frame (drop l.frame-index l.frames)) more →
    AreComdats [] (map plain_frame l.frames) (records_said l.records.items ++ more)
