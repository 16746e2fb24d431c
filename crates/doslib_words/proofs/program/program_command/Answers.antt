use Rattle.std.proofs.Common.{codes, rules}
use Rattle.clap.specs.Words.{new_app}
use Rattle.doslib_words.proofs.program.program_command.Goals as goal

pub returns-clause-app : goal.returns-clause-app
returns-clause-app c =
    let one =
    c.with_arg-command.ensures.app (new_app (codes "program")) _ (search rules) c.file_arg.ensures.rule in
    let two = c.with_arg-command-2.ensures.app _ _ one c.image_option.ensures.rule in
    c.with_arg.ensures.app _ _ two c.at_option.ensures.rule
