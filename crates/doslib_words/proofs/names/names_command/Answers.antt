use Rattle.std.proofs.Common.{codes, rules}
use Rattle.clap.specs.Words.{new_app}
use Rattle.command_line.specs.Rules.{case_rule, files_rule}
use Rattle.doslib_words.proofs.names.names_command.Goals as goal

pub returns-clause-app : goal.returns-clause-app
returns-clause-app c =
    let one = c.with_arg-command.ensures.app (new_app (codes "names")) case_rule (search rules) (search rules) in
    c.with_arg.ensures.app _ files_rule one c.requires.rule
