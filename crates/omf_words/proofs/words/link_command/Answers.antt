use Rattle.std.proofs.Common.{codes, rules}
use Rattle.clap.specs.Words.{new_app}
use Rattle.omf_words.proofs.words.link_command.Goals as goal

pub returns-clause-app : goal.returns-clause-app
returns-clause-app c =
    let one =
    c.with_arg-command.ensures.app (new_app (codes "link")) _ (search rules) c.out_option.ensures.rule in
    let two = c.with_arg-command-2.ensures.app _ _ one c.map_option.ensures.rule in
    let three = c.with_arg-command-3.ensures.app _ _ two c.case_flag.ensures.rule in
    c.with_arg.ensures.app _ _ three c.files.ensures.rule
