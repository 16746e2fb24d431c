use Rattle.std.proofs.lemmas.Str.{IsCharBoundary-after_ascii}
use Rattle.makefile_words.proofs.TokensLemmas.{first-quote, first-mark}
use Rattle.makefile_words.proofs.tokens.next_token.Goals as goal

pub range_from-requires : goal.range_from-requires
range_from-requires c = λ _.
    IsCharBoundary-after_ascii c.args.text.now 0 c.utf8.text c.requires
    (first-quote c.args.text.now c.as_bytes.result.now c.is_quote.result c.as_bytes.ensures.value
    c.is_quote.ensures c.if-is_quote.true)

pub range_from-requires-in-Some : goal.range_from-requires-in-Some
range_from-requires-in-Some c = λ _.
    IsCharBoundary-after_ascii c.args.text.now 0 c.utf8.text c.requires
    (first-mark c.args.text.now c.as_bytes.result.now c.mark_of.result c.in-Some.mark
    c.as_bytes.ensures.value c.mark_of.ensures c.in-Some.is)
