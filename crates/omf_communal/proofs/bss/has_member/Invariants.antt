use Rattle.std.proofs.Common.{◌≡◌, false, slice_get, take}
use Rattle.std.specs.List.{filter_map, list_any}
use Rattle.omf_communal.specs.Bss.{is_bss}
use Rattle.omf_communal.proofs.bss.has_member.Given as goal

abbrev pub invariant-loop-member : goal.invariant-loop-member
invariant-loop-member g l =
    list_any is_bss (filter_map (slice_get l.from.segments) (take l.member-index l.members)) ≡ false
