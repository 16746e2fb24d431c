use Rattle.std.proofs.Common.{lit<}
use Rattle.std.proofs.lemmas.Str.Pattern.{strip_prefix_char}
use Rattle.doslink_asked.proofs.Texts.{response-is}
use Rattle.doslink_asked.proofs.reading.response_path.Goals as goal

pub returns : goal.returns
returns c =
    response-is c.args.word.now c.strip_prefix.result
    (strip_prefix_char 64 c.args.word.now c.strip_prefix.result c.strip_prefix.ensures.cases (lit< tt))
