use Rattle.std.proofs.Common.{refl}
use Rattle.omf_jobs.proofs.jobs.answer_job.Goals as goal

pub returns-in-Link : goal.returns-in-Link
returns-in-Link g c =
    rw (c.in-Link.is, c.with_word-in-Link.ensures, ← c.deref.ensures.value, ← c.options_of-options.ensures)
    (refl, c.link_and_map-answer.ensures)

pub returns-in-Show : goal.returns-in-Show
returns-in-Show g c = rw (c.in-Show.is, c.with_word.ensures) c.show_file-answer.ensures

pub returns-in-Check : goal.returns-in-Check
returns-in-Check g c = rw (c.in-Check.is, c.with_word-in-Check.ensures) c.check_file-answer.ensures

pub returns-in-Rewrite : goal.returns-in-Rewrite
returns-in-Rewrite g c = rw (c.in-Rewrite.is, c.with_word-in-Rewrite.ensures) (refl, c.rewrite_file-answer.ensures)

pub returns-in-Load : goal.returns-in-Load
returns-in-Load g c = rw (c.in-Load.is, c.with_word-in-Load.ensures) c.load_path-answer.ensures
