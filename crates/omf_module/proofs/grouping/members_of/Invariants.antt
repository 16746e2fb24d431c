use Rattle.std.proofs.Common.{◌≡◌, take}
use Rattle.omf_module.specs.Grouped.{members}
use Rattle.omf_module.proofs.grouping.members_of.Given as goal

-- the members so far
abbrev pub invariant-loop-number : goal.invariant-loop-number
invariant-loop-number g l = l.members.items ≡ members (take l.number l.joined)
