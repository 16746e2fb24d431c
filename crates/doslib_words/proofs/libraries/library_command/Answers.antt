use Rattle.std.proofs.Common.{rules}
use Rattle.clap.specs.Words.{new_app}
use Rattle.doslib_words.specs.Libraries.{library_rule}
use Rattle.doslib_words.proofs.libraries.library_command.Goals as goal

pub returns-clause-app : goal.returns-clause-app
returns-clause-app c = λ rule is.
    let one =
    c.with_arg-command.ensures.app (new_app c.args.name.now) library_rule (search rules) (search rules) in
    c.with_arg.ensures.app _ rule one is
