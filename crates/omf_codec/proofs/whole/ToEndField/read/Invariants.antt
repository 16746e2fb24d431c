use Rattle.std.proofs.Common.{length, map}
use Rattle.omf_codec.proofs.Lists.{SoFar}
use Rattle.omf_codec.proofs.whole.ToEndField.read.Given as goal

abbrev pub invariant-loop-alloc : goal.invariant-loop-alloc
invariant-loop-alloc g l =
    SoFar (g.F.Codec.format l.number) l.bytes (map (g.F.Codec.format l.number).view l.items.items) l.rest

abbrev pub decreases-loop-alloc : goal.decreases-loop-alloc
decreases-loop-alloc g l = length l.rest
