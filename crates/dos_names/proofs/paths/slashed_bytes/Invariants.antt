use Rattle.std.proofs.Common.{◌≡◌, ◌++◌, drop, map}
use Rattle.dos_names.specs.Names.{slashed}
use Rattle.dos_names.proofs.paths.slashed_bytes.Given as goal

abbrev pub invariant-loop-byte : goal.invariant-loop-byte
invariant-loop-byte g l = l.bytes.items ++ map slashed (drop l.byte-index l.path) ≡ map slashed l.path
