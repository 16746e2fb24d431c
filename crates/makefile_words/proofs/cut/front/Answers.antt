use Rattle.std.proofs.Common.{◌∙◌, arith, sym}
use Rattle.makefile_words.proofs.CutLemmas.{front_no, front_none, front_yes}
use Rattle.makefile_words.proofs.Splitting.{split-none, split-some, split-whole}
use Rattle.makefile_words.proofs.cut.front.Goals as goal

pub returns-then-may_touch-clause-front : goal.returns-then-may_touch-clause-front
returns-then-may_touch-clause-front c =
    front_yes c.args.language c.args.word.now c.in-Some.front.now c.in-Some.last.now
    (split-some 47 c.args.word.now c.in-Some.front.now c.in-Some.last.now c.in-Some.ensures.cases (omega arith))
    (sym c.may_touch.ensures ∙ c.if-may_touch.true)

pub returns-then-may_touch-clause-whole : goal.returns-then-may_touch-clause-whole
returns-then-may_touch-clause-whole c = (
  c.in-Some.last.now,
  split-whole 47 c.args.word.now c.in-Some.front.now c.in-Some.last.now c.in-Some.ensures.cases (omega arith),
)

pub returns-else-may_touch-clause-front : goal.returns-else-may_touch-clause-front
returns-else-may_touch-clause-front c =
    front_no c.args.language c.args.word.now c.in-Some.front.now c.in-Some.last.now
    (split-some 47 c.args.word.now c.in-Some.front.now c.in-Some.last.now c.in-Some.ensures.cases (omega arith))
    (sym c.may_touch.ensures ∙ c.if-may_touch.false)

pub returns-in-None-clause-front : goal.returns-in-None-clause-front
returns-in-None-clause-front c =
    front_none c.args.language c.args.word.now (split-none 47 c.args.word.now c.in-None.ensures.cases (omega arith))
