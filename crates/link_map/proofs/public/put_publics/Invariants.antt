use Rattle.std.proofs.Common.{◌≡◌, take}
use Rattle.std.specs.List.{flat_map}
use Rattle.std.specs.Io.KnownBytes.{Appends}
use Rattle.link_map.specs.Public.{public_line}
use Rattle.link_map.specs.inside.Listed.{seen}
use Rattle.link_map.proofs.public.put_publics.Given as goal

abbrev pub invariant-loop-public : goal.invariant-loop-public
invariant-loop-public g l = record {
  count : g.K.Sink.failures l.sink ≡ g.K.Sink.failures l.initial.sink;
  appended : Appends (g.K.Sink.written l.initial.sink) (g.K.Sink.written l.sink)
      (flat_map (λ p. public_line (seen p)) (take l.public-index l.publics));
}
