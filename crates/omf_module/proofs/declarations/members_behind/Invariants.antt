use Rattle.std.proofs.Common.{◌≡◌, ◌+◌, map, take}
use Rattle.omf_module.proofs.declarations.members_behind.Given as goal

-- those so far
abbrev pub invariant-loop-member : goal.invariant-loop-member
invariant-loop-member g l = l.all.items ≡ map (λ member. l.segments + member) (take l.member-index l.members)
