use Rattle.std.proofs.Common.{◌-◌, length}
use Rattle.omf_library.specs.inside.Lines.{AreMeasured}
use Rattle.omf_library.proofs.Told.{ArchiveLeft}
use Rattle.omf_library.proofs.archive.archive_members.Given as goal

abbrev pub invariant-loop-place : goal.invariant-loop-place
invariant-loop-place g l = record {
  left : ArchiveLeft l.file l.names.table.now l.place l.members.items;
  measured : AreMeasured l.names;
}

abbrev pub decreases-loop-place : goal.decreases-loop-place
decreases-loop-place g l = length l.file - l.place
