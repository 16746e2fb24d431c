use Rattle.doslink_words.proofs.words.files_command.Goals as goal

pub returns-clause-app : goal.returns-clause-app
returns-clause-app c =
    let one = c.with_arg-command.ensures.app _ _ c.bare_command.ensures.app c.out_option.ensures.rule in
    let two = c.with_arg-command-2.ensures.app _ _ one c.map_option.ensures.rule in
    let three = c.with_arg-command-3.ensures.app _ _ two c.list_option.ensures.rule in
    let four = c.with_arg-command-4.ensures.app _ _ three c.list_option-2.ensures.rule in
    c.with_arg.ensures.app _ _ four c.files.ensures.rule
