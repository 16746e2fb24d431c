use Rattle.std.proofs.Common.{length}
use Rattle.std.specs.Str.{IsUtf8}
use Rattle.doslink_words.specs.inside.Tokens.{all_placed}
use Rattle.doslink_words.proofs.PlacesLemmas.{IsLeft}
use Rattle.doslink_words.proofs.tokens.put_tokens.Given as goal

abbrev pub invariant-loop-front : goal.invariant-loop-front
invariant-loop-front l = record {
  left : IsLeft l.line l.text (all_placed l.fn.tokens.items) (all_placed l.tokens.items) l.rest;
  utf8 : IsUtf8 l.rest;
}

abbrev pub decreases-loop-front : goal.decreases-loop-front
decreases-loop-front l = length l.rest
