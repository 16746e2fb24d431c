use Rattle.std.proofs.Common.{◌≡◌, drop, find}
use Rattle.omf_module.specs.Seen.{data_seen}
use Rattle.omf_image.specs.Overflow.{overflows}
use Rattle.omf_image.proofs.Listing.{entry_of}
use Rattle.omf_image.proofs.overflow.overflow_of.Given as goal

abbrev pub invariant-loop-fixup : goal.invariant-loop-fixup
invariant-loop-fixup g l =
    find (overflows l.layout (entry_of l.input l.module (data_seen l.data_record)))
    (drop l.fixup-index l.data_record.fixups.now)
    ≡ find (overflows l.layout (entry_of l.input l.module (data_seen l.data_record))) l.data_record.fixups.now
