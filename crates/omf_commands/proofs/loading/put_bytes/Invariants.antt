use Rattle.std.proofs.Common.{◌≡◌, ◌+◌, ◌/◌, take, length}
use Rattle.std.specs.List.{flat_map, range_with_len}
use Rattle.std.specs.Io.KnownBytes.{Appends}
use Rattle.omf_commands.specs.Loading.{bytes_line_at}
use Rattle.omf_commands.proofs.loading.put_bytes.Given as goal

abbrev pub invariant-loop-line : goal.invariant-loop-line
invariant-loop-line g l = record {
  count : g.K.Sink.failures l.sink ≡ g.K.Sink.failures l.initial.sink;
  appended : Appends (g.K.Sink.written l.initial.sink) (g.K.Sink.written l.sink)
      (flat_map (bytes_line_at l.address l.bytes) (take l.line (range_with_len 0 ((length l.bytes + 15) / 16))));
}
