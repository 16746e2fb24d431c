use Rattle.std.proofs.Common.{◌-◌, length}
use Rattle.omf_library.proofs.Endings.{EndLeft}
use Rattle.omf_library.proofs.ending.library_end.Given as goal

abbrev pub invariant-loop-place : goal.invariant-loop-place
invariant-loop-place l = EndLeft l.file l.page l.place

abbrev pub decreases-loop-place : goal.decreases-loop-place
decreases-loop-place l = length l.file - l.place
