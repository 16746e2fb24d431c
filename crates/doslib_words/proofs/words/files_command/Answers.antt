use Rattle.std.proofs.Common.{rules}
use Rattle.clap.specs.Words.{new_app}
use Rattle.command_line.specs.Rules.{files_rule}
use Rattle.doslib_words.proofs.words.files_command.Goals as goal

pub returns-clause-app : goal.returns-clause-app
returns-clause-app c =
    c.with_arg.ensures.app (new_app c.args.name.now) files_rule (search rules) (search rules)
