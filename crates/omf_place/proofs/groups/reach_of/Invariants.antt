use Rattle.std.proofs.Common.{◌≡◌, take}
use Rattle.omf_place.specs.inside.Groups.{reach_in}
use Rattle.omf_place.proofs.groups.reach_of.Given as goal

abbrev pub invariant-loop-member : goal.invariant-loop-member
invariant-loop-member l = l.reach ≡ reach_in l.stands (take l.member-index l.members)
