use Rattle.std.proofs.Common.{slice_range, ◌≡◌, ◌-◌, ◌≤◌, max}
use Rattle.std.specs.Io.KnownBytes.{Appends}
use Rattle.flat_file.proofs.bin.put_image.Given as goal

abbrev pub invariant-loop-at : goal.invariant-loop-at
invariant-loop-at g l = record {
  above : l.fn.from ≤ l.at;
  within : l.at ≤ max l.fn.from l.end;
  count : g.K.Sink.failures l.sink ≡ g.K.Sink.failures l.initial.sink;
  appended : Appends (g.K.Sink.written l.initial.sink) (g.K.Sink.written l.sink)
      (slice_range l.program.image l.fn.from l.at);
}

abbrev pub decreases-loop-at : goal.decreases-loop-at
decreases-loop-at g l = l.end - l.at
