use Rattle.std.proofs.Common.{arith, length-drop, rules, tests}
use Rattle.std.proofs.lemmas.Iterator.{YieldsList-from_slice}
use Rattle.std.proofs.lemmas.Iterator.Search.{position_from_yields_List}
use Rattle.std.proofs.lemmas.List.{take_all}
use Rattle.makefile_words.specs.Tokens.{ends_word}
use Rattle.makefile_words.proofs.TokensLemmas.{place-from}
use Rattle.makefile_words.proofs.tokens.end_from.Goals as goal

pub returns-clause-end : goal.returns-clause-end
returns-clause-end c =
    let found =
    position_from_yields_List (ends_word c.args.folders) _ _ c.position-end.result c.position-end.ensures.ran
    (YieldsList-from_slice _ c.iter.ensures.rest) (λ x b q k. search (rules, tests)) in
    place-from (ends_word c.args.folders) c.args.text.now c.args.start _ c.position-end.result c.unwrap_or.result
    (take_all _ _ (omega (arith, length-drop c.args.start c.args.text.now))) found c.unwrap_or.ensures
