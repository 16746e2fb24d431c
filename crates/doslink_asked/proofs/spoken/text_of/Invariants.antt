use Rattle.std.proofs.Common.{◌≡◌, string_bytes, take}
use Rattle.doslink_asked.specs.Spoken.{text_of}
use Rattle.doslink_asked.specs.inside.Spoken.{said_lines}
use Rattle.doslink_asked.proofs.spoken.text_of.Given as goal

abbrev pub invariant-loop-line : goal.invariant-loop-line
invariant-loop-line l = string_bytes l.text ≡ text_of (said_lines (take l.line-index l.lines))
