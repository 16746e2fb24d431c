use Rattle.std.proofs.Common.{arith}
use Rattle.std.proofs.lemmas.Str.Pattern.{strip_prefix_char}
use Rattle.clap.proofs.LexerLemmas.{strip_byte-from}
use Rattle.makefile_words.proofs.cut.after_slash.Goals as goal

pub returns : goal.returns
returns c =
    strip_byte-from 47 c.args.word.now c.strip_prefix.result
    (strip_prefix_char 47 c.args.word.now c.strip_prefix.result c.strip_prefix.ensures.cases (omega arith))
