use Rattle.std.proofs.Common.{◌≡◌, ◌∙◌, Err, ap, map, rules}
use Rattle.doslink_words.specs.Tokens.{text_of}
use Rattle.doslink_words.specs.inside.Tokens.{pieces}
use Rattle.doslink_words.proofs.TokensLemmas.{words-are, words-none}
use Rattle.doslink_words.proofs.tokens.split_words.Goals as goal

pub returns-in_err-tokens-clause-err : goal.returns-in_err-tokens-clause-err
returns-in_err-tokens-clause-err c =
    let is : c.from_residual.result ≡ Err c.in_err-tokens.field-0.0 = search rules in
    rw is (words-none c.args.text.now c.in_err-tokens.field-0.0 c.in_err-tokens.ensures.err)

pub returns-clause-ok : goal.returns-clause-ok
returns-clause-ok c =
    words-are c.args.text.now c.in_ok-tokens.tokens.items _ c.in_ok-tokens.ensures.ok
    (c.in_ok-texts_of.ensures ∙ ap (λ ts. map text_of (pieces ts)) c.as_slice.ensures.value)
