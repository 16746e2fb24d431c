use Rattle.std.proofs.Common.{◌∙◌, ap, option_map, sym}
use Rattle.makefile_words.proofs.CutLemmas.{head_more, head_start, head_stop, head_within}
use Rattle.makefile_words.proofs.cut.head.Goals as goal

pub pieces-init : goal.pieces-init
pieces-init c = record { left = head_start c.args.language c.args.word.now; utf8 = c.utf8.word }

pub pieces-preserved : goal.pieces-preserved
pieces-preserved c = record {
  left =
      head_more c.args.language c.args.word.now c.pieces.head.now c.in-Some.shorter.now c.in-Some.ensures.whole.0
      c.pieces.invariant.left c.in-Some.ensures.whole.1 c.in-Some.ensures.front;
  utf8 = c.in-Some.ensures.utf8;
}

pub returns-clause-head : goal.returns-clause-head
returns-clause-head c =
    head_stop c.args.language c.args.word.now c.pieces.head.now c.pieces.invariant.left
    (sym (ap (option_map (λ s. s.now)) c.in_default.is) ∙ c.front.ensures.front)

pub returns-clause-within : goal.returns-clause-within
returns-clause-within c = head_within c.args.language c.args.word.now c.pieces.head.now c.pieces.invariant.left

pub returns-clause-slash : goal.returns-clause-slash
returns-clause-slash c = c.pieces.invariant.left.slash
