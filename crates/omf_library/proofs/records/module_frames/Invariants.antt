use Rattle.std.proofs.Common.{◌-◌, length}
use Rattle.omf_library.proofs.Walking.{FramesLeft}
use Rattle.omf_library.proofs.records.module_frames.Given as goal

abbrev pub invariant-loop-frame : goal.invariant-loop-frame
invariant-loop-frame g l = FramesLeft l.bytes l.place l.frames.items

abbrev pub decreases-loop-frame : goal.decreases-loop-frame
decreases-loop-frame g l = length l.bytes - l.place
