use Rattle.std.proofs.Common.{Err, refl}
use Rattle.doslib_jobs.specs.declared.fault.Stopped.TheVariants.{Memory}
use Rattle.doslib_jobs.specs.inside.Running.{outcome_said}
use Rattle.doslib_jobs.proofs.jobs.answer_words.Goals as goal

pub returns-in-Help : goal.returns-in-Help
returns-in-Help g c = rw (c.in-Help.is, ← c.as_str.ensures.value) (record {
  answer = outcome_said c.print_text-answer.result;
  answered = c.print_text-answer.ensures;
  line = c.finish.ensures.line;
  ends = c.finish.ensures.status;
})

pub returns-in-Wrong : goal.returns-in-Wrong
returns-in-Wrong g c = rw (c.in-Wrong.is, ← c.as_str-in-Wrong.ensures.value)
    (refl, c.wrong_words.ensures.text, c.wrong_words.ensures.status)

pub returns-in-Memory : goal.returns-in-Memory
returns-in-Memory g c = rw c.in-Memory.is (
  refl,
  record {
    answer = Err Memory;
    answered = refl;
    line = c.out_of_memory.ensures.line;
    ends = c.out_of_memory.ensures.status;
  },
)
