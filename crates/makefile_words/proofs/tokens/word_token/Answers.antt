use Rattle.makefile_words.proofs.TokensLemmas.{word-boundary}
use Rattle.makefile_words.proofs.tokens.word_token.Goals as goal

pub range-requires-clause-end_boundary : goal.range-requires-clause-end_boundary
range-requires-clause-end_boundary c =
    rw c.in_ok-end.ensures.len (word-boundary c.args.language c.args.text.now c.requires)

pub range_from-requires : goal.range_from-requires
range_from-requires c = λ _. rw c.in_ok-end.ensures.len (word-boundary c.args.language c.args.text.now c.requires)
