use Rattle.std.proofs.Common.{◌-◌, length}
use Rattle.omf_library.specs.Said.{bytes_said}
use Rattle.omf_library.proofs.Walking.{ModuleLeft}
use Rattle.omf_library.proofs.library.member_at.Given as goal

abbrev pub invariant-loop-frame : goal.invariant-loop-frame
invariant-loop-frame l = ModuleLeft l.file l.place l.end (bytes_said l.header) (bytes_said l.comment)

abbrev pub decreases-loop-frame : goal.decreases-loop-frame
decreases-loop-frame l = length l.file - l.end
