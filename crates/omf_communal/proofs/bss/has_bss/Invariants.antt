use Rattle.std.proofs.Common.{◌≡◌, false, take}
use Rattle.std.specs.List.{list_any}
use Rattle.omf_communal.specs.Bss.{is_in_group}
use Rattle.omf_communal.proofs.bss.has_bss.Given as goal

abbrev pub invariant-loop-index : goal.invariant-loop-index
invariant-loop-index g l = list_any (is_in_group l.from.segments) (take l.index l.from.groups) ≡ false
