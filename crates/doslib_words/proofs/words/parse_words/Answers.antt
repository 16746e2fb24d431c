use Rattle.std.proofs.Common.{◌∙◌, ap}
use Rattle.std.proofs.lemmas.Result.{IfErr-weaker, IfOk-weaker}
use Rattle.clap.specs.Words.{takes}
use Rattle.command_line.proofs.Parses.{no_fault, subcommand_given, subcommand_is, subcommand_there}
use Rattle.doslib_words.specs.Words.{doslib_command, texts}
use Rattle.doslib_words.proofs.WordsValues.{entered_here, job_for, doslib_is_free, doslib_is_simple, memory_refuses}
use Rattle.doslib_words.proofs.WordsValues.{one_entered, refusal_for}
use Rattle.doslib_words.proofs.words.parse_words.Goals as goal

pub returns-in_default-clause-refused : goal.returns-in_default-clause-refused
returns-in_default-clause-refused c = λ taken. memory_refuses (texts c.args.words.now)

pub returns-in-Err-clause-refused : goal.returns-in-Err-clause-refused
returns-in-Err-clause-refused c = λ taken.
    rw (c.refusal.ensures.memory
    (c.in-Err.ensures.passes (ap (λ a. takes a (texts c.args.words.now)) c.in-Ok.ensures ∙ taken)))
    (memory_refuses (texts c.args.words.now))

pub unwrap-requires : goal.unwrap-requires
unwrap-requires c =
    let words = texts c.args.words.now in
    let none =
    no_fault doslib_command _ words c.in-Ok.ensures doslib_is_free c.try_get_matches_from.result _
    c.try_get_matches_from.ensures.kinds c.in-Ok-try_get_matches_from.is in
    let met =
    subcommand_given doslib_command _ words c.in-Ok.ensures doslib_is_free c.in-Ok-try_get_matches_from.matches
    c.in-Ok-try_get_matches_from.ensures.matches in
    subcommand_there c.in-Ok-try_get_matches_from.matches c.subcommand.result _ c.subcommand.ensures.variant met
    (one_entered words none)

pub job_of-requires : goal.job_of-requires
job_of-requires c =
    let words = texts c.args.words.now in
    let none =
    no_fault doslib_command _ words c.in-Ok.ensures doslib_is_free c.try_get_matches_from.result _
    c.try_get_matches_from.ensures.kinds c.in-Ok-try_get_matches_from.is in
    let met =
    subcommand_given doslib_command _ words c.in-Ok.ensures doslib_is_free c.in-Ok-try_get_matches_from.matches
    c.in-Ok-try_get_matches_from.ensures.matches in
    entered_here words _ _ none
    (subcommand_is c.in-Ok-try_get_matches_from.matches c.subcommand.result c.unwrap.result _
    c.subcommand.ensures.name c.subcommand.ensures.rows met c.unwrap.ensures)

pub returns-clause-job : goal.returns-clause-job
returns-clause-job c =
    let words = texts c.args.words.now in
    let none =
    no_fault doslib_command _ words c.in-Ok.ensures doslib_is_free c.try_get_matches_from.result _
    c.try_get_matches_from.ensures.kinds c.in-Ok-try_get_matches_from.is in
    let met =
    subcommand_given doslib_command _ words c.in-Ok.ensures doslib_is_free c.in-Ok-try_get_matches_from.matches
    c.in-Ok-try_get_matches_from.ensures.matches in
    let entered =
    subcommand_is c.in-Ok-try_get_matches_from.matches c.subcommand.result c.unwrap.result _
    c.subcommand.ensures.name c.subcommand.ensures.rows met c.unwrap.ensures in
    IfOk-weaker c.job_of.result _ _ (λ job fits. job_for words _ _ job none entered fits) c.job_of.ensures.ok

pub returns-clause-refused : goal.returns-clause-refused
returns-clause-refused c = λ taken.
    let words = texts c.args.words.now in
    let met =
    subcommand_given doslib_command _ words c.in-Ok.ensures doslib_is_free c.in-Ok-try_get_matches_from.matches
    c.in-Ok-try_get_matches_from.ensures.matches in
    let entered =
    subcommand_is c.in-Ok-try_get_matches_from.matches c.subcommand.result c.unwrap.result _
    c.subcommand.ensures.name c.subcommand.ensures.rows met c.unwrap.ensures in
    IfErr-weaker c.job_of.result _ _ (λ fault fits. refusal_for words _ _ fault entered fits) c.job_of.ensures.err

pub returns-in_default-clause-simple : goal.returns-in_default-clause-simple
returns-in_default-clause-simple c = doslib_is_simple

pub returns-in-Err-clause-simple : goal.returns-in-Err-clause-simple
returns-in-Err-clause-simple c = doslib_is_simple

pub returns-clause-simple : goal.returns-clause-simple
returns-clause-simple c = doslib_is_simple
