use Rattle.std.proofs.Common.{◌≡◌, ◌-◌, List, length, Some}
use Rattle.omf_record.specs.Records.{Placed, AreBeforeEnd}
use Rattle.omf_commands.specs.Records.{output}
use Rattle.omf_commands.specs.Reading.{WentThrough}
use Rattle.omf_commands.proofs.records.go_through.Given as goal

abbrev pub invariant-loop-frame : goal.invariant-loop-frame
invariant-loop-frame g l =
    (rs : List Placed) × AreBeforeEnd rs
    × (through : WentThrough (output l.form) rs (g.S.Source.remaining l.initial.source) (g.S.Source.remaining l.source)
    (g.K.Sink.written l.initial.sink) (g.K.Sink.written l.sink))
    × (l.place ≡ length through.bytes)
    × (l.buf ≡ Some l.place)
    × (g.S.Source.failures l.source ≡ g.S.Source.failures l.initial.source)
    × (g.K.Sink.failures l.sink ≡ g.K.Sink.failures l.initial.sink)

abbrev pub decreases-loop-frame : goal.decreases-loop-frame
decreases-loop-frame g l = 8589934592 - l.place
