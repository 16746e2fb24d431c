use Rattle.std.proofs.Common.{rules, tests}
use Rattle.std.proofs.lemmas.Iterator.{YieldsList-from_slice}
use Rattle.std.proofs.lemmas.Iterator.Search.{position_from_yields_List}
use Rattle.makefile_words.specs.Tokens.{is_quote}
use Rattle.makefile_words.proofs.TokensLemmas.{place-is}
use Rattle.makefile_words.proofs.tokens.quote_at.Goals as goal

pub returns-clause-place : goal.returns-clause-place
returns-clause-place c =
    let found =
    position_from_yields_List is_quote _ _ c.position-place.result c.position-place.ensures.ran
    (YieldsList-from_slice _ c.iter.ensures.rest) (λ x b q k. search (rules, tests)) in
    place-is is_quote c.args.text.now c.position-place.result c.unwrap_or.result found c.unwrap_or.ensures
