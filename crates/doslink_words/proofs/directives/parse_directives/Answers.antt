use Rattle.std.proofs.Common.{◌∙◌, ap}
use Rattle.doslink_words.specs.Tokens.{texts}
use Rattle.doslink_words.proofs.PartsLemmas.{text_done, text_fault}
use Rattle.doslink_words.proofs.directives.parse_directives.Goals as goal

pub returns-in-Ok-follow_lines : goal.returns-in-Ok-follow_lines
returns-in-Ok-follow_lines c =
    text_done c.args.text.now _ _ (ap texts c.as_slice.ensures.value ∙ c.in-Ok.ensures) c.new-directives.ensures _
    c.in-Ok-follow_lines.ensures

pub returns : goal.returns
returns c =
    text_fault c.args.text.now _ _ (ap texts c.as_slice.ensures.value ∙ c.in-Ok.ensures) c.new-directives.ensures
    c.in-Err.fault c.in-Err.ensures
