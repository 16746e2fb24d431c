use Rattle.std.proofs.Common.{◌∙◌, ap, arith}
use Rattle.std.proofs.lemmas.List.{map-append}
use Rattle.makefile_words.specs.inside.Tokens.{piece_of, pieces, placed_of}
use Rattle.makefile_words.proofs.TokensLemmas.{is_none, left-more, left-none, left-start, not_empty}
use Rattle.makefile_words.proofs.tokens.tokens_ending.Goals as goal

pub loop-rest-init : goal.loop-rest-init
loop-rest-init c = record {
  left = left-start c.args.language c.args.total c.args.text.now c.new-tokens.result.items c.requires c.new-tokens.ensures.items;
  utf8 = c.utf8.text;
}

pub returns : goal.returns
returns c =
    left-none c.args.language c.args.total c.args.text.now (pieces c.loop-rest.tokens.items) c.loop-rest.rest.now
    c.loop-rest.invariant.left (is_none _ c.is_empty.result c.is_empty.ensures c.loop-rest-test.false)

pub loop-rest-preserved : goal.loop-rest-preserved
loop-rest-preserved c =
    let put = ap pieces c.in_ok-push.ensures.items ∙ map-append placed_of _ _ in
    let some = not_empty _ c.is_empty.result c.is_empty.ensures c.loop-rest-test.true in
    record {
      left =
          rw put
          (left-more c.args.language c.args.total c.args.text.now (pieces c.loop-rest.tokens.items) c.loop-rest.rest.now _
          (piece_of c.in_ok-next.next.0) c.in_ok-next.next.1.now c.loop-rest.invariant.left some
          (omega arith) c.in_ok-next.ensures.token c.in_ok-next.ensures.shorter);
      utf8 = c.in_ok-next.ensures.utf8;
    }
