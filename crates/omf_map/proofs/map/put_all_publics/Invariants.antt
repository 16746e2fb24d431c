use Rattle.std.proofs.Common.{◌≡◌, take}
use Rattle.std.specs.List.{flat_map}
use Rattle.std.specs.Io.KnownBytes.{Appends}
use Rattle.omf_module.specs.Module.{Module}
use Rattle.omf_map.specs.Map.{public_line}
use Rattle.omf_map.proofs.map.put_all_publics.Given as goal

abbrev pub invariant-loop-module : goal.invariant-loop-module
invariant-loop-module g l = record {
  count : g.K.Sink.failures l.sink ≡ g.K.Sink.failures l.initial.sink;
  appended : Appends (g.K.Sink.written l.initial.sink) (g.K.Sink.written l.sink)
      (flat_map (λ (m : Module). flat_map (public_line l.layout) m.publics) (take l.module-index l.modules));
}
