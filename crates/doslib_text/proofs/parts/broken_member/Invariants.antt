use Rattle.std.proofs.Common.{◌-◌, ◌+◌, length}
use Rattle.doslib_text.proofs.Walking.{BrokenLeft}
use Rattle.doslib_text.proofs.parts.broken_member.Given as goal

abbrev pub invariant-loop-place : goal.invariant-loop-place
invariant-loop-place l = BrokenLeft l.file l.page l.place

abbrev pub decreases-loop-place : goal.decreases-loop-place
decreases-loop-place l = (length l.file + 1) - l.place
