use Rattle.std.proofs.Common.{◌≡◌, ◌-◌, ◌≤◌, List, ℕ, ◌++◌, vec_len}
use Rattle.std.specs.Io.KnownBytes.{Consumes}
use Rattle.mz.proofs.reading.read_up_to.Given as goal

abbrev pub invariant-loop-piece : goal.invariant-loop-piece
invariant-loop-piece g l = record {
  within : vec_len l.bytes ≤ l.len;
  count : g.S.Source.failures l.source ≡ g.S.Source.failures l.initial.source;
  read : (more : List ℕ) × (l.bytes.items ≡ l.initial.bytes.items ++ more)
      × Consumes (g.S.Source.remaining l.initial.source) (g.S.Source.remaining l.source) more;
}

abbrev pub decreases-loop-piece : goal.decreases-loop-piece
decreases-loop-piece g l = l.len - vec_len l.bytes
