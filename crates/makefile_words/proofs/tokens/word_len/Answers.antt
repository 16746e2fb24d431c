use Rattle.std.proofs.Common.{◌∙◌, ap, arith, false}
use Rattle.clap.specs.Words.{Text}
use Rattle.makefile_words.specs.Tokens.{end_from}
use Rattle.makefile_words.proofs.TokensLemmas.{end_from-boundary}
use Rattle.makefile_words.proofs.tokens.word_len.Goals as goal

pub range-requires-clause-end_boundary : goal.range-requires-clause-end_boundary
range-requires-clause-end_boundary c =
    rw (c.end_from-front.ensures.end ∙ ap (λ (t : Text). end_from false t 1) c.as_bytes.ensures.value)
    (end_from-boundary false c.args.text.now 1 (omega (arith, c.requires)))
