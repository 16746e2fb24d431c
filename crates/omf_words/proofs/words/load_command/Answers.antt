use Rattle.std.proofs.Common.{codes, rules}
use Rattle.clap.specs.Words.{new_app}
use Rattle.omf_words.specs.Words.{needed}
use Rattle.omf_words.proofs.words.load_command.Goals as goal

pub returns-clause-app : goal.returns-clause-app
returns-clause-app c =
    let one =
    c.with_arg-command.ensures.app (new_app (codes "load")) (needed (codes "FILE")) (search rules) (search rules) in
    c.with_arg.ensures.app _ (needed (codes "PARAGRAPH")) one (search rules)
