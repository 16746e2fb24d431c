use Rattle.std.proofs.Common.{◌-◌, length}
use Rattle.omf_library.proofs.Told.{MembersLeft}
use Rattle.omf_library.proofs.library.library_members.Given as goal

abbrev pub invariant-loop-place : goal.invariant-loop-place
invariant-loop-place g l = MembersLeft l.file l.page l.place l.members.items

abbrev pub decreases-loop-place : goal.decreases-loop-place
decreases-loop-place g l = length l.file - l.place
