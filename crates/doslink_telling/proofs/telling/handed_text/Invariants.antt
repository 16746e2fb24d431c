use Rattle.std.proofs.Common.{◌≡◌, ◌++◌, drop}
use Rattle.std.specs.List.{enumerate_from, flat_map}
use Rattle.std.specs.Option.{option_copied}
use Rattle.doslink_telling.specs.Words.{handed_text, taken_end, word_at}
use Rattle.doslink_telling.proofs.telling.handed_text.Given as goal

abbrev pub invariant-loop-index : goal.invariant-loop-index
invariant-loop-index g l = l.text.items
    ++ flat_map (λ p. word_at l.fn.words p.0 ++ taken_end (option_copied p.1.wanted))
    (enumerate_from l.index (drop l.index l.fn.handed))
    ≡ handed_text l.fn.handed l.fn.words
