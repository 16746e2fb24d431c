use Rattle.std.proofs.Common.{◌≡◌, ◌++◌, take}
use Rattle.std.specs.Option.{option_map}
use Rattle.doslink_words.specs.Tokens.{texts}
use Rattle.doslink_asked.specs.Spoken.{numbered}
use Rattle.doslink_asked.specs.inside.Spoken.{said_lines}
use Rattle.doslink_asked.proofs.spoken.push_numbered.Given as goal

abbrev pub invariant-loop-index : goal.invariant-loop-index
invariant-loop-index l =
    said_lines l.lines.items ≡ said_lines l.initial.lines.items
    ++ numbered (option_map (λ p. p.now) l.fn.path) 1 (texts (take l.index l.fn.texts))
