use Rattle.std.proofs.Common.{◌≡◌, ◌++◌, drop}
use Rattle.std.specs.List.{enumerate_from, flat_map}
use Rattle.doslink_telling.specs.Lines.{word_joint}
use Rattle.doslink_telling.proofs.lines.push_listed.Given as goal

abbrev pub invariant-loop-index : goal.invariant-loop-index
invariant-loop-index g l = l.lines.items
    ++ flat_map (λ p. word_joint p.0 ++ p.1.now) (enumerate_from l.index (drop l.index l.fn.words))
    ≡ l.initial.lines.items ++ flat_map (λ p. word_joint p.0 ++ p.1.now) (enumerate_from 0 l.fn.words)
