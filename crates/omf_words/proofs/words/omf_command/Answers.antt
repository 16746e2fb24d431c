use Rattle.omf_words.specs.Words.{omf_command}
use Rattle.omf_words.proofs.words.omf_command.Goals as goal

pub returns : goal.returns
unfolding omf_command
returns c =
    let one = c.with_command-command.ensures.app _ _ c.bare_command.ensures.app c.file_command-show.ensures.app in
    let two = c.with_command-command-2.ensures.app _ _ one c.file_command-check.ensures.app in
    let three = c.with_command-command-3.ensures.app _ _ two c.rewrite_command.ensures.app in
    let four = c.with_command-command-4.ensures.app _ _ three c.link_command.ensures.app in
    c.with_command.ensures.app _ _ four c.load_command.ensures.app
