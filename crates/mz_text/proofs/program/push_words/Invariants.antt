use Rattle.std.proofs.Common.{◌≡◌, ◌++◌, drop}
use Rattle.std.specs.List.{flat_map}
use Rattle.mz_text.specs.Program.{word_line}
use Rattle.mz_text.specs.inside.Words.{word_said}
use Rattle.mz_text.proofs.program.push_words.Given as goal

abbrev pub invariant-loop-word : goal.invariant-loop-word
invariant-loop-word g l =
    l.lines.items ++ flat_map (λ w. word_line (word_said w)) (drop l.word-index l.fn.words)
    ≡ l.initial.lines.items ++ flat_map (λ w. word_line (word_said w)) l.fn.words
