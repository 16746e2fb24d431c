use Rattle.std.proofs.Common.{◌∙◌}
use Rattle.doslink_words.specs.Said.{said_of}
use Rattle.doslink_words.proofs.PartsLemmas.{taken_apart, tokens_more, tokens_stop}
use Rattle.doslink_words.proofs.directives.follow_tokens.Goals as goal

pub tokens-preserved : goal.tokens-preserved
tokens-preserved c =
    c.tokens.invariant
    ∙ tokens_more (said_of c.tokens.directives) _ c.tokens.rest.now _ _ _ c.in-Ok.count
    (taken_apart c.tokens.rest.now _ c.in-len1-up.len_at_least) c.in-Ok.ensures.within c.left_behind-rest.ensures
    c.in-Ok.ensures.meant

pub returns-in-Err : goal.returns-in-Err
returns-in-Err c =
    tokens_stop (said_of c.tokens.directives) _ c.tokens.rest.now _ _ c.in-Err.fault c.fault_of.result _
    (taken_apart c.tokens.rest.now _ c.in-len1-up.len_at_least) c.in-Err.ensures.meant c.fault_of.ensures
    c.tokens.invariant
