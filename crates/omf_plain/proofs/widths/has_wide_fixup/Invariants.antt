use Rattle.std.proofs.Common.{◌≡◌, drop}
use Rattle.std.specs.List.{list_any}
use Rattle.omf_plain.specs.Widths.{is_wide_fixup}
use Rattle.omf_plain.proofs.widths.has_wide_fixup.Given as goal

-- those that are left decide
abbrev pub invariant-loop-subrecord : goal.invariant-loop-subrecord
invariant-loop-subrecord l =
    list_any is_wide_fixup (drop l.subrecord-index l.subrecords) ≡ list_any is_wide_fixup l.subrecords
