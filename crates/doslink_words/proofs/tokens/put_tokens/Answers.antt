use Rattle.std.proofs.Common.{◌≡◌, ◌∙◌, ◌∷◌, ◌++◌, [], ap, sym}
use Rattle.std.proofs.lemmas.List.{map-append}
use Rattle.doslink_words.specs.inside.Tokens.{all_placed, piece_of, placed_of}
use Rattle.doslink_words.proofs.PlacesLemmas.{left-more, left-start, placed_at}
use Rattle.doslink_words.proofs.tokens.put_tokens.Goals as goal

pub loop-front-init : goal.loop-front-init
loop-front-init c = record {
  left = left-start c.args.line c.args.text.now (all_placed c.args.tokens.now.items);
  utf8 = c.utf8.text;
}

pub loop-front-preserved : goal.loop-front-preserved
loop-front-preserved c =
    let put : all_placed c.push.new.self.items
    ≡ all_placed c.loop-front.tokens.items
    ++ (placed_at c.args.line (piece_of c.in-Some.token) ∷ []) =
    ap all_placed c.in_ok-push.ensures.items ∙ map-append placed_of _ _ in
    record {
      left =
          rw put
          (left-more c.args.line c.args.text.now (all_placed c.args.tokens.now.items)
          (all_placed c.loop-front.tokens.items) c.loop-front.rest.now
          c.after_space-front.result.now (piece_of c.in-Some.token) c.in-Some.after.now c.says_nothing.result
          c.loop-front.invariant.left c.after_space-front.ensures c.says_nothing.ensures c.if-says_nothing.false
          (sym c.in-Some.ensures.token) c.in-Some.ensures.shorter);
      utf8 = c.in-Some.ensures.utf8;
    }
