use Rattle.std.proofs.Common.{slice_range, get_or, ◌≡◌, ◌+◌, ◌<◌, ◌≤◌, ℕ, max}
use Rattle.std.specs.Io.KnownBytes.{Appends}
use Rattle.omf_image.specs.Words.{add_words}
use Rattle.flat_file.proofs.bin.write_bin.Given as goal

abbrev pub invariant-loop-word : goal.invariant-loop-word
invariant-loop-word g l = record {
  above : l.fn.from ≤ l.at;
  within : l.at ≤ max l.fn.from l.program.written;
  behind : (k : ℕ) → k < l.word-index → get_or l.program.relocations k 0 + 2 ≤ l.at;
  count : g.K.Sink.failures l.sink ≡ g.K.Sink.failures l.initial.sink;
  appended : Appends (g.K.Sink.written l.initial.sink) (g.K.Sink.written l.sink)
      (slice_range (add_words l.paragraph l.program.relocations l.program.image) l.fn.from l.at);
}
