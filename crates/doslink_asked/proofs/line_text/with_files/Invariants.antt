use Rattle.std.proofs.Common.{ℕ, string_bytes}
use Rattle.doslink_asked.specs.Lines.{IsSpoken}
use Rattle.doslink_asked.proofs.line_text.with_files.Given as goal

abbrev pub invariant-rounds : goal.invariant-rounds
invariant-rounds g l =
    (rounds : ℕ) × IsSpoken (g.W.World.bytes l.fn.world) l.fn.language rounds l.fn.text (string_bytes l.line)
