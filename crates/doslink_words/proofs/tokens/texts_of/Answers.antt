use Rattle.std.proofs.Common.{arith}
use Rattle.command_line.proofs.Lists.{made_next}
use Rattle.doslink_words.specs.Tokens.{text_of}
use Rattle.doslink_words.specs.inside.Tokens.{piece_of}
use Rattle.doslink_words.proofs.tokens.texts_of.Goals as goal

pub tokens-preserved : goal.tokens-preserved
tokens-preserved c =
    made_next (λ s. s.now) text_of piece_of c.args.tokens.now c.tokens.words.items c.push.new.self.items
    c.tokens.token-index _ c.text.result (omega arith) c.in_ok-push.ensures.items c.text.ensures c.tokens.invariant
