use Rattle.std.proofs.Common.{◌≡◌, ◌-◌, ℕ, List, length, Some}
use Rattle.omf_record.specs.Records.{Placed}
use Rattle.omf_module.specs.inside.Running.{state_of}
use Rattle.omf_module.specs.inside.Building.{state}
use Rattle.omf_module.specs.inside.Behind.{Took}
use Rattle.omf_module.proofs.reading.read_records.Given as goal

abbrev pub invariant-loop-frame : goal.invariant-loop-frame
invariant-loop-frame g l =
    (rs : List Placed) × (front : List ℕ)
    × Took rs front (g.S.Source.remaining l.initial.source) (g.S.Source.remaining l.source)
    × (l.place ≡ length front) × (l.buf ≡ Some l.place) × (state l.builder ≡ state_of rs)
    × (g.S.Source.failures l.source ≡ g.S.Source.failures l.initial.source)

abbrev pub decreases-loop-frame : goal.decreases-loop-frame
decreases-loop-frame g l = 8589934592 - l.place
