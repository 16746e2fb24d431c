use Rattle.std.proofs.Common.{List, ◌++◌, map, take}
use Rattle.omf_frame.specs.Lending.{plain_frame}
use Rattle.omf_module.specs.Building.{Holds}
use Rattle.omf_record.specs.Records.{Placed}
use Rattle.omf_record.specs.View.{view}
use Rattle.omf_plain.specs.Modules.{placed}
use Rattle.omf_plain.proofs.modules.add_all.Given as goal

-- those before it are held
abbrev pub invariant-loop-record : goal.invariant-loop-record
invariant-loop-record g l =
    (before : List Placed) → Holds before l.fn.builder
    → Holds (before ++ placed (plain_frame l.frame) (map view (take l.record-index l.records))) l.builder
