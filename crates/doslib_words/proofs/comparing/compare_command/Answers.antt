use Rattle.std.proofs.Common.{codes, rules}
use Rattle.clap.specs.Words.{new_app}
use Rattle.doslib_words.proofs.comparing.compare_command.Goals as goal

pub returns-clause-app : goal.returns-clause-app
returns-clause-app c =
    let one =
    c.with_arg-command.ensures.app (new_app (codes "compare")) _ (search rules) c.program_arg.ensures.rule in
    let two = c.with_arg-command-2.ensures.app _ _ one c.other_arg.ensures.rule in
    c.with_arg.ensures.app _ _ two c.files.ensures.rule
