use Rattle.std.proofs.Common.{◌≡◌, ◌-◌, ◌≤◌, take}
use Rattle.std.specs.Io.KnownBytes.{Appends}
use Rattle.mz.specs.File.{file_image}
use Rattle.mz.proofs.writing.put_image.Given as goal

abbrev pub invariant-loop-at : goal.invariant-loop-at
invariant-loop-at g l = record {
  within : l.at ≤ l.program.written;
  count : g.K.Sink.failures l.sink ≡ g.K.Sink.failures l.initial.sink;
  appended : Appends (g.K.Sink.written l.initial.sink) (g.K.Sink.written l.sink) (take l.at (file_image l.program));
}

abbrev pub decreases-loop-at : goal.decreases-loop-at
decreases-loop-at g l = l.program.written - l.at
