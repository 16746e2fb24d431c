use Rattle.std.proofs.Common.{◌≡◌, ◌≤◌, length, take}
use Rattle.omf_library.specs.Archive.{without_spaces}
use Rattle.omf_library.proofs.number.without_spaces.Given as goal

abbrev pub invariant-loop-len : goal.invariant-loop-len
invariant-loop-len l = (without_spaces (take l.len l.bytes) ≡ without_spaces l.bytes) × (l.len ≤ length l.bytes)

abbrev pub decreases-loop-len : goal.decreases-loop-len
decreases-loop-len l = l.len
