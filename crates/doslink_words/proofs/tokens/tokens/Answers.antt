use Rattle.std.proofs.Common.{◌≡◌, ◌∙◌, ◌∷◌, ◌++◌, [], ap, length, rules, sym}
use Rattle.std.proofs.lemmas.List.{map-append}
use Rattle.doslink_words.specs.inside.Tokens.{piece_of, pieces}
use Rattle.doslink_words.proofs.TokensLemmas.{left-more, left-start, not_empty}
use Rattle.doslink_words.proofs.tokens.tokens.Goals as goal

pub loop-front-init : goal.loop-front-init
loop-front-init c = record {
  left = left-start c.args.syntax c.args.text.now c.new-tokens.result.items c.new-tokens.ensures.items;
  utf8 = c.utf8.text;
}

pub after_space-front-requires-text-text : goal.after_space-front-requires-text-text
after_space-front-requires-text-text c = λ _. c.loop-front.invariant.utf8

pub loop-front-preserved : goal.loop-front-preserved
loop-front-preserved c =
    let put : pieces c.push.new.self.items ≡ pieces c.loop-front.tokens.items ++ (piece_of c.in-Some.token ∷ []) =
    ap pieces c.in_ok-push.ensures.items ∙ map-append piece_of _ _ in
    record {
      left =
          rw put
          (left-more c.args.syntax c.args.text.now (pieces c.loop-front.tokens.items) c.loop-front.rest.now
          c.after_space-front.result.now (piece_of c.in-Some.token) c.in-Some.after.now
          c.loop-front.invariant.left c.after_space-front.ensures
          (not_empty (length c.after_space-front.result.now) c.is_empty.result c.is_empty.ensures c.if-is_empty.false)
          (sym c.in-Some.ensures.token) c.in-Some.ensures.shorter);
      utf8 = c.in-Some.ensures.utf8;
    }

pub returns-in_default-clause-err : goal.returns-in_default-clause-err
returns-in_default-clause-err c = search rules

pub returns-then-is_empty-clause-ok : goal.returns-then-is_empty-clause-ok
returns-then-is_empty-clause-ok c = search rules
