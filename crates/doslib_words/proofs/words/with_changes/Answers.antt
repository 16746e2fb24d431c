use Rattle.command_line.specs.Rules.{files_rule}
use Rattle.doslib_words.specs.Libraries.{members_rule}
use Rattle.doslib_words.proofs.words.with_changes.Goals as goal

pub returns-clause-app : goal.returns-clause-app
returns-clause-app c = λ outer above.
    let make = c.library_command-make.ensures.app files_rule c.files.ensures.rule in
    let add = c.library_command-add.ensures.app files_rule c.files-2.ensures.rule in
    let delete = c.library_command-delete.ensures.app members_rule c.members_arg.ensures.rule in
    let replace = c.library_command-replace.ensures.app files_rule c.files-3.ensures.rule in
    let extract = c.library_command-extract.ensures.app members_rule c.members_arg-2.ensures.rule in
    let one = c.with_command-command.ensures.app _ _ above make in
    let two = c.with_command-command-2.ensures.app _ _ one add in
    let three = c.with_command-command-3.ensures.app _ _ two delete in
    let four = c.with_command-command-4.ensures.app _ _ three replace in
    c.with_command.ensures.app _ _ four extract
