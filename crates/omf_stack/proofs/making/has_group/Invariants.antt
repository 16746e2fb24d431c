use Rattle.std.proofs.Common.{◌≡◌, false, take}
use Rattle.std.specs.List.{list_any}
use Rattle.omf_stack.specs.Answer.{is_dgroup}
use Rattle.omf_stack.proofs.making.has_group.Given as goal

abbrev pub invariant-loop-index : goal.invariant-loop-index
invariant-loop-index g l = list_any is_dgroup (take l.index l.from.groups) ≡ false
