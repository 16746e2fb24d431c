-- The exit statuses of what stops a run, and what is told of it.
use Rattle.std.specs.Prelude.{ℕ, List, Ok, Err}
use Rattle.std.specs.declared.result.Result.{Result}
use Rattle.doslink_passes.specs.Stops.{OnInput, stop_status, stop_text}
use Rattle.doslink_passes.specs.declared.stop.Stop.TheVariants.{Input, Device, Memory}
use Rattle.doslink_jobs.specs.declared.stop.Halt.{Halt}
use Rattle.doslink_jobs.specs.declared.stop.Halt.TheVariants as halt

-- 2 where words are wrong
abbrev pub halt_status : Halt → ℕ
halt_status halt.Words = 2
halt_status (halt.Stop stop) = stop_status stop

-- 0 where nothing stopped it
abbrev pub status_of : Result (Unit {0}) Halt → ℕ
status_of (Ok done) = 0
status_of (Err why) = halt_status why

-- the lines, or that there was no memory
abbrev pub halt_text : Halt → (lines : List ℕ) → List ℕ
halt_text halt.Words lines = lines
halt_text (halt.Stop stop) lines = stop_text stop lines

-- words are wrong, unless there was no memory to tell it
abbrev pub IsWords : Halt → Type 0
IsWords halt.Words = Unit {0}
IsWords (halt.Stop Input) = ⊥
IsWords (halt.Stop Device) = ⊥
IsWords (halt.Stop Memory) = Unit {0}

-- where an input is at fault one of these holds, and the other one where words are wrong
abbrev pub OnHalt : Halt → (Refused Wrong : Type 0) → Type 0
OnHalt halt.Words Refused Wrong = Wrong
OnHalt (halt.Stop stop) Refused Wrong = OnInput stop Refused

-- what is told of a run
abbrev pub told_text : Result (Unit {0}) Halt → (lines : List ℕ) → List ℕ
told_text (Ok done) lines = lines
told_text (Err why) lines = halt_text why lines
