use Rattle.std.proofs.Common.{◌∙◌, ap, sym}
use Rattle.std.proofs.lemmas.List.{map-append}
use Rattle.doslink_words.specs.Tokens.{texts}
use Rattle.makefile_words.specs.inside.Parts.{split_of}
use Rattle.makefile_words.proofs.PartsLemmas.{rest-end, rest-more, rest-start}
use Rattle.makefile_words.proofs.parts.parts_of.Goals as goal

pub parts-init : goal.parts-init
parts-init c = record {
  left = rest-start c.args.mark c.args.text.now (texts c.new-parts.result.items) (ap texts c.new-parts.ensures.items);
  utf8 = c.utf8.text;
}

pub parts-preserved : goal.parts-preserved
parts-preserved c =
    let put = ap texts c.in_ok-push.ensures.items ∙ map-append (λ s. s.now) _ _ in
    record {
      left =
          rw put
          (rest-more c.args.mark c.args.text.now (texts c.parts.parts.items) c.parts.rest.now c.in-Some.part.now
          c.in-Some.more.now c.parts.invariant.left c.in-Some.ensures.parts c.in-Some.ensures.shorter);
      utf8 = c.in-Some.ensures.utf8;
    }

pub returns : goal.returns
returns c =
    ap texts c.in_ok-push-2.ensures.items
    ∙ (map-append (λ s. s.now) _ _
    ∙ rest-end c.args.mark c.args.text.now (texts c.parts.parts.items) c.parts.rest.now c.parts.invariant.left
    (sym (ap split_of c.in_default.is) ∙ c.first_split.ensures.parts))
