use Rattle.std.proofs.Common.{◌≡◌, ◌+◌, drop, filter, length, nat_lt}
use Rattle.omf_record.specs.Numbers.{bit}
use Rattle.omf_image.specs.Overflow.{touches}
use Rattle.omf_image.proofs.overflow.is_shared.Given as goal

abbrev pub invariant-loop-fixup : goal.invariant-loop-fixup
invariant-loop-fixup l =
    nat_lt 1 (bit l.is_touched + length (filter (touches l.offset) (drop l.fixup-index l.fixups)))
    ≡ nat_lt 1 (length (filter (touches l.offset) l.fixups))
