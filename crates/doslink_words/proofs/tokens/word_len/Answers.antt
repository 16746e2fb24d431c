use Rattle.std.proofs.Common.{rules, tests}
use Rattle.std.proofs.lemmas.Iterator.{YieldsList-from_slice}
use Rattle.std.proofs.lemmas.Iterator.Search.{position_from_yields_List}
use Rattle.doslink_words.specs.Tokens.{ends_word}
use Rattle.doslink_words.proofs.TokensLemmas.{word_len-is}
use Rattle.doslink_words.proofs.tokens.word_len.Goals as goal

pub returns : goal.returns
returns c =
    let found =
    position_from_yields_List (ends_word c.args.syntax) _ _ c.position-end.result c.position-end.ensures.ran
    (YieldsList-from_slice _ c.iter.ensures.rest) (λ x b q k. search (rules, tests)) in
    word_len-is c.args.syntax c.args.text.now c.as_bytes.result.now c.position-end.result c.unwrap_or.result
    c.as_bytes.ensures.value found c.unwrap_or.ensures
