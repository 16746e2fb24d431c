-- What a run adds file by file, and what it came to.
use Rattle.std.specs.Prelude.{◌≡◌, ℕ, List, ◌++◌, IfOk, max, Ok, Err}
use Rattle.std.specs.declared.option.Option.{Option}
use Rattle.std.specs.declared.result.Result.{Result}
use Rattle.std.specs.Io.KnownBytes.{Appends}
use Rattle.doslink_files.specs.Files.{IsTold}
use Rattle.doslink_files.specs.declared.fault.ReadFault.{ReadFault}
use Rattle.doslib_jobs.specs.declared.fault.Stopped.{Stopped}
use Rattle.doslib_jobs.specs.declared.outcome.Outcome.{Outcome}
use Rattle.doslib_jobs.specs.declared.telling.Telling.{Telling}
use Rattle.doslib_jobs.specs.declared.telling.Telling.TheVariants.{Members, Records}
use Rattle.doslib_jobs.specs.Jobs.{IsToldOf, Lists, Shows}
use Rattle.doslib_jobs.specs.Reading.{file_status}

-- what a word tells of a file
abbrev pub tells_of : Telling → (path file text faults : List ℕ) → Type 0
tells_of Members = Lists
tells_of Records = Shows

-- The file at a path was read, and what is told of it was added.
pub record Adds {A : Type 0} (tells : List ℕ → List ℕ → List ℕ → List ℕ → Type 0) (told : List ℕ → Option (List ℕ))
    (path : List ℕ) (old new : Option (List ℕ)) (before after : Outcome A) : Type 0 where
  pub bytes : Result (List ℕ) ReadFault
  pub text : List ℕ
  pub faults : List ℕ
  pub is : IfOk bytes (IsTold (told path)) × IsToldOf tells path bytes text faults
  pub appended : Appends old new text
  pub lines : after.lines.items ≡ before.lines.items ++ faults
  pub greatest_is : after.status ≡ max before.status (file_status bytes faults)

-- what a job came to: the lines of its faults and its status
abbrev pub said : {A : Type 0} → Outcome A → List ℕ × ℕ
said o = (o.lines.items, o.status)

-- the same, or why it stopped
abbrev pub outcome_said : {A : Type 0} → Result (Outcome A) Stopped → Result (List ℕ × ℕ) Stopped
outcome_said (Ok o) = Ok (said o)
outcome_said (Err why) = Err why
