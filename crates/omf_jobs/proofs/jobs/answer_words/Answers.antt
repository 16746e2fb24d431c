use Rattle.std.proofs.Common.{refl}
use Rattle.omf_jobs.proofs.jobs.answer_words.Goals as goal

pub returns-in-Wrong : goal.returns-in-Wrong
returns-in-Wrong g c = rw (c.in-Wrong.is, ← c.as_str-in-Wrong.ensures.value)
    (refl, c.wrong_words.ensures.text, c.wrong_words.ensures.status)
