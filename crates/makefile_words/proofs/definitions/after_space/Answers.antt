use Rattle.std.proofs.lemmas.Str.Ascii.{trim_ascii_start_is}
use Rattle.makefile_words.proofs.definitions.after_space.Goals as goal

pub returns-clause-value : goal.returns-clause-value
returns-clause-value c =
    trim_ascii_start_is c.args.text.now c.trim_ascii_start.result.now c.trim_ascii_start.ensures.value
