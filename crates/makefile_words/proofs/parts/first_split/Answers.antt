use Rattle.std.proofs.Common.{◌∙◌, ap, false}
use Rattle.makefile_words.specs.Parts.{part_len}
use Rattle.makefile_words.proofs.PartsLemmas.{part-behind, part-front}
use Rattle.makefile_words.proofs.parts.first_split.Goals as goal

pub range-requires-clause-end_boundary : goal.range-requires-clause-end_boundary
range-requires-clause-end_boundary c =
    part-front c.args.mark c.part_len-len.result c.args.text.now c.requires
    (c.part_len-len.ensures.len ∙ ap (part_len c.args.mark false) c.as_bytes.ensures.value) c.if-len-text.true

pub range_from-requires : goal.range_from-requires
range_from-requires c = λ _.
    part-behind c.args.mark c.part_len-len.result c.args.text.now c.utf8.text c.requires
    (c.part_len-len.ensures.len ∙ ap (part_len c.args.mark false) c.as_bytes.ensures.value) c.if-len-text.true
