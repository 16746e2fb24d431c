use Rattle.doslink_words.specs.Words.{doslink_command}
use Rattle.doslink_words.proofs.words.doslink_command.Goals as goal

pub returns-clause-app : goal.returns-clause-app
unfolding doslink_command
returns-clause-app c =
    let one = c.with_arg-command.ensures.app _ _ c.files_command.ensures.app c.case_flag.ensures.rule in
    let two = c.with_arg-command-2.ensures.app _ _ one c.order_option.ensures.rule in
    let three = c.with_arg-command-3.ensures.app _ _ two c.stack_option.ensures.rule in
    let four = c.with_arg-command-4.ensures.app _ _ three c.form_option.ensures.rule in
    let five = c.with_arg-command-5.ensures.app _ _ four c.at_option.ensures.rule in
    let six = c.with_arg-command-6.ensures.app _ _ five c.map_form_option.ensures.rule in
    let seven = c.with_arg-command-7.ensures.app _ _ six c.flag.ensures.rule in
    let eight = c.with_arg-command-8.ensures.app _ _ seven c.flag-2.ensures.rule in
    c.with_arg.ensures.app _ _ eight c.verbose_flag.ensures.rule
