use Rattle.std.proofs.Common.{sym, ◌∙◌}
use Rattle.makefile_words.proofs.TokensLemmas.{ending-more, ending-start, ending-stop}
use Rattle.makefile_words.proofs.tokens.folders_end.Goals as goal

pub quoted-init : goal.quoted-init
quoted-init c = rw c.end_from-end.ensures.end (ending-start c.args.text.now c.args.front c.requires)

pub quoted-preserved : goal.quoted-preserved
quoted-preserved c =
    ending-more c.args.text.now c.args.front c.quoted.end c.in-Some.len c.end_from-end-in-Some.result
    c.quoted.invariant c.in-Some.ensures.len c.in-Some.ensures.within.0 c.in-Some.ensures.within.1
    c.end_from-end-in-Some.ensures.end c.end_from-end-in-Some.ensures.within.0

pub returns-clause-end : goal.returns-clause-end
returns-clause-end c =
    ending-stop c.args.text.now c.args.front c.quoted.end c.quoted.invariant
    (sym c.in_default.is ∙ c.quoted_at.ensures.len)
