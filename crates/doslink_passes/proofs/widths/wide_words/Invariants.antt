use Rattle.std.proofs.Common.{◌≡◌, ◌++◌, drop}
use Rattle.std.specs.List.{enumerate_from, flat_map}
use Rattle.doslink_link.specs.Linking.{bytes_of}
use Rattle.doslink_telling.specs.Words.{word_at}
use Rattle.doslink_passes.specs.inside.WideSegments as spec
use Rattle.doslink_passes.proofs.widths.wide_words.Given as goal

abbrev pub invariant-loop-index : goal.invariant-loop-index
invariant-loop-index g l = bytes_of l.words.items
    ++ flat_map (spec.wide_word (word_at l.fn.request.words.now)) (enumerate_from l.index (drop l.index l.fn.widths))
    ≡ spec.wide_words (word_at l.fn.request.words.now) l.fn.widths
