use Rattle.std.proofs.Common.{◌≡◌, map, take}
use Rattle.doslink_stock.specs.Seen.{handed_held}
use Rattle.doslink_telling.specs.Words.{module_word}
use Rattle.doslink_telling.proofs.telling.module_words.Given as goal

abbrev pub invariant-loop-each : goal.invariant-loop-each
invariant-loop-each g l = map (λ w. w.items) l.words.items
    ≡ map (λ h. module_word l.fn.paths (handed_held h)) (take l.each-index l.fn.handed)
