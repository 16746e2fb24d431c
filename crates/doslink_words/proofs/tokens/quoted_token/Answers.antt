use Rattle.doslink_words.proofs.TokensLemmas.{behind_char-IsUtf8}
use Rattle.doslink_words.proofs.tokens.quoted_token.Goals as goal

pub returns-clause-utf8 : goal.returns-clause-utf8
returns-clause-utf8 c =
    let p = c.in_ok-quoted.ensures.cases in
    behind_char-IsUtf8 c.args.text.now c.in_ok-quoted.rest.now _ p.0 p.1 c.utf8.text p.2.1 p.4
