use Rattle.std.proofs.Common.{◌≡◌, take}
use Rattle.std.specs.Hash as fed
use Rattle.std.specs.List.{fold, flat_map}
use Rattle.omf_keys.proofs.key.feed.Given as goal

abbrev pub invariant-loop-byte : goal.invariant-loop-byte
invariant-loop-byte g l = l.state ≡ fold g.H.Hasher.write l.initial.state (flat_map fed.u8 (take l.byte-index l.name))
