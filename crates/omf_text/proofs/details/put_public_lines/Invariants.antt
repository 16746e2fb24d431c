use Rattle.std.proofs.Common.{◌≡◌, take}
use Rattle.std.specs.List.{flat_map}
use Rattle.std.specs.Io.KnownBytes.{Appends}
use Rattle.omf_record.specs.View.{public_view}
use Rattle.omf_text.specs.Details.{public_line}
use Rattle.omf_text.proofs.details.put_public_lines.Given as goal

abbrev pub invariant-loop-public : goal.invariant-loop-public
invariant-loop-public g l = record {
  count : g.K.Sink.failures l.sink ≡ g.K.Sink.failures l.initial.sink;
  appended : Appends (g.K.Sink.written l.initial.sink) (g.K.Sink.written l.sink)
      (flat_map (λ x. public_line l.fn.local (public_view x)) (take l.public-index l.publics));
}
