use Rattle.doslib_words.specs.Words.{doslib_command}
use Rattle.doslib_words.proofs.words.doslib_command.Goals as goal

pub returns : goal.returns
unfolding doslib_command
returns c =
    let one = c.with_command-command.ensures.app _ _ c.bare_command.ensures.app c.files_command-list.ensures.app in
    let two = c.with_command-command-2.ensures.app _ _ one c.files_command-show.ensures.app in
    let three = c.with_command-command-3.ensures.app _ _ two c.program_command.ensures.app in
    let four = c.with_command-command-4.ensures.app _ _ three c.match_command.ensures.app in
    let five = c.with_command-command-5.ensures.app _ _ four c.compare_command.ensures.app in
    let six = c.with_command-command-6.ensures.app _ _ five c.names_command.ensures.app in
    c.with_changes.ensures.app _ six
