use Rattle.std.proofs.Common.{length, map}
use Rattle.omf_codec.proofs.Lists.{SoFar}
use Rattle.omf_wide.specs.inside.Communals.{communal}
use Rattle.omf_extended.proofs.Chains.{AreKnown}
use Rattle.omf_extended.proofs.communals.read_chain.Given as goal

abbrev pub invariant-loop-alloc : goal.invariant-loop-alloc
invariant-loop-alloc g l =
    AreKnown (map communal.view l.communals.items)
    × SoFar communal l.bytes (map communal.view l.communals.items) l.rest

abbrev pub decreases-loop-alloc : goal.decreases-loop-alloc
decreases-loop-alloc g l = length l.rest
