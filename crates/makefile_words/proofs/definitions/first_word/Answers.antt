use Rattle.std.proofs.Common.{◌∙◌, ap}
use Rattle.makefile_words.specs.Definitions.{word_len}
use Rattle.makefile_words.proofs.DefinitionsLemmas.{word-boundary}
use Rattle.makefile_words.proofs.definitions.first_word.Goals as goal

pub range-requires-clause-end_boundary : goal.range-requires-clause-end_boundary
range-requires-clause-end_boundary c =
    rw (c.word_len-end.ensures.len ∙ ap word_len c.as_bytes.ensures.value) (word-boundary c.args.text.now c.requires)

pub range_from-requires : goal.range_from-requires
range_from-requires c = λ _.
    rw (c.word_len-end.ensures.len ∙ ap word_len c.as_bytes.ensures.value) (word-boundary c.args.text.now c.requires)
