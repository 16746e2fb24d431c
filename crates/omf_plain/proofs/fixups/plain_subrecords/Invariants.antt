use Rattle.std.proofs.Common.{drop}
use Rattle.omf_plain.specs.Fixups as fixups
use Rattle.omf_plain.specs.View.{data_view}
use Rattle.omf_plain.proofs.Each.{Gathered}
use Rattle.omf_plain.proofs.fixups.plain_subrecords.Given as goal

abbrev pub invariant-loop-subrecord : goal.invariant-loop-subrecord
invariant-loop-subrecord g l =
    Gathered (fixups.plain_subrecord l.flat (data_view l.last)) l.wide (drop l.subrecord-index l.wide) l.subrecords.items
