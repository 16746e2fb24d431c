use Rattle.std.proofs.Common.{◌≡◌, take}
use Rattle.omf_keys.specs.Keys.{digest_of}
use Rattle.omf_keys.proofs.key.digest_of.Given as goal

abbrev pub invariant-loop-byte : goal.invariant-loop-byte
invariant-loop-byte l = l.digest ≡ digest_of (take l.byte-index l.name)
