use Rattle.std.proofs.Common.{codes, rules}
use Rattle.clap.specs.Words.{new_app}
use Rattle.omf_words.specs.Words.{needed}
use Rattle.omf_words.proofs.words.file_command.Goals as goal

pub returns-clause-app : goal.returns-clause-app
returns-clause-app c =
    c.with_arg.ensures.app (new_app c.args.name.now) (needed (codes "FILE")) (search rules) (search rules)
