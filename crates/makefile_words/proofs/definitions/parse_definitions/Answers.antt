use Rattle.std.proofs.Common.{refl}
use Rattle.makefile_words.proofs.DefinitionsLemmas.{left-more, left-start}
use Rattle.makefile_words.proofs.TokensLemmas.{not_empty}
use Rattle.makefile_words.proofs.definitions.parse_definitions.Goals as goal

pub loop-front-init : goal.loop-front-init
loop-front-init c = record {
  left = left-start c.args.text.now c.new-warnings.result.items c.new-warnings.ensures.items;
  utf8 = c.utf8.text;
}

pub loop-front-preserved : goal.loop-front-preserved
loop-front-preserved c =
    let some = not_empty _ c.is_empty.result c.is_empty.ensures c.if-is_empty.false in
    record {
      left =
          left-more c.args.text.now c.loop-front.warnings.items c.follow_line.new.warnings.items
          c.loop-front.rest.now c.after_space-front.result.now c.first_line.result.0.now c.first_line.result.1.now _
          c.loop-front.invariant.left c.after_space-front.ensures.value some c.after_space-front.ensures.within refl
          c.first_line.ensures.line c.first_line.ensures.behind c.first_line.ensures.shorter
          c.in_ok-follow_line.ensures;
      utf8 = c.first_line.ensures.utf8;
    }
