-- How a run ends of words that ask for a job.
use Rattle.std.specs.Prelude.{ℕ, List, Some, MatchOption}
use Rattle.std.specs.declared.option.Option.{Option}
use Rattle.clap.specs.Words.{Text}
use Rattle.doslink_words.specs.declared.job.Job.{Job}
use Rattle.doslink_jobs.specs.Jobs.{EndsWith, IsDone}
use Rattle.doslink_jobs.specs.Refusals.{IsRefusedJob}

-- A run ends with status 0 only where the job that is asked for was done, or none is asked for, and with 1 only where
-- it was refused.
abbrev pub EndsBy : (A : Type 0) → (told : Text → Option (List ℕ)) → (Writes : (path bytes : List ℕ) → Type 0)
    → (folders : List Text) → (Asks : Option Job → Type 0) → (tells : List ℕ → Type 0) → (status : ℕ) → Type 0
EndsBy A told Writes folders Asks =
    EndsWith ((job : Option Job) × Asks job × MatchOption job (Unit {0}) (IsDone A told Writes folders))
    ((job : Job) × Asks (Some job) × IsRefusedJob A told folders job) (Unit {0})
