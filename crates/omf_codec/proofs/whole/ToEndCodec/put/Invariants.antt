use Rattle.omf_codec.proofs.Lists.{Left}
use Rattle.omf_codec.proofs.whole.ToEndCodec.put.Given as goal

abbrev pub invariant-loop-item : goal.invariant-loop-item
invariant-loop-item g l =
    Left g.O.Output.Takes g.O.Output.Refuses g.met.O.Output.is_output (g.F.Codec.format l.number)
    (g.met.F.Codec.lawful l.number) l.items.items l.fn.out l.item-index l.out
