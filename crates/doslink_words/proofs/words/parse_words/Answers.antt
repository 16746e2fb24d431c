use Rattle.std.proofs.lemmas.Result.{IfOk-weaker}
use Rattle.clap.specs.Words.{app_of}
use Rattle.doslink_words.specs.Tokens.{texts}
use Rattle.doslink_words.proofs.WordsLemmas.{doslink_is_free, job_for, taken_fails, taken_values}
use Rattle.doslink_words.proofs.words.parse_words.Goals as goal

pub returns-in-Ok-clause-job : goal.returns-in-Ok-clause-job
returns-in-Ok-clause-job c =
    IfOk-weaker c.checked_job.result _ _
    (λ job fits. job_for (app_of c.in_ok-command.command) (texts c.args.words.now) (texts c.asked-words.result.now)
    c.in-Ok.values c.try_get_matches_from.result c.in-Ok.values job c.asked-words.ensures c.in_ok-command.ensures.app
    c.try_get_matches_from.ensures.kinds c.in-Ok.is c.in-Ok.ensures.matches fits.0 fits.1)
    c.checked_job.ensures.job

pub returns-in-Ok-clause-refused : goal.returns-in-Ok-clause-refused
returns-in-Ok-clause-refused c = λ taken.
    c.checked_job.ensures.refused
    (taken_values (app_of c.in_ok-command.command) (texts c.args.words.now) (texts c.asked-words.result.now)
    c.in-Ok.values c.asked-words.ensures c.in_ok-command.ensures.app c.in-Ok.ensures.matches taken)

pub returns-in-Err-clause-refused : goal.returns-in-Err-clause-refused
returns-in-Err-clause-refused c = λ taken.
    c.refusal.ensures.memory
    (taken_fails (app_of c.in_ok-command.command) (texts c.args.words.now) (texts c.asked-words.result.now)
    c.try_get_matches_from.result c.in-Err.error c.asked-words.ensures c.in_ok-command.ensures.app
    c.try_get_matches_from.ensures.kinds c.in-Err.is taken)

pub returns-in_err-command-clause-simple : goal.returns-in_err-command-clause-simple
returns-in_err-command-clause-simple c = doslink_is_free

pub returns-in-Ok-clause-simple : goal.returns-in-Ok-clause-simple
returns-in-Ok-clause-simple c = doslink_is_free

pub returns-in-Err-clause-simple : goal.returns-in-Err-clause-simple
returns-in-Err-clause-simple c = doslink_is_free
