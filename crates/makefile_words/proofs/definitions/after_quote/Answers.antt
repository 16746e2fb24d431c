use Rattle.std.proofs.lemmas.Str.Pattern.{strip_prefix_char}
use Rattle.clap.proofs.LexerLemmas.{strip_byte-from}
use Rattle.makefile_words.proofs.definitions.after_quote.Goals as goal

pub returns : goal.returns
returns c =
    strip_byte-from c.args.quote c.args.text.now c.strip_prefix.result
    (strip_prefix_char c.args.quote c.args.text.now c.strip_prefix.result c.strip_prefix.ensures.cases c.requires)
