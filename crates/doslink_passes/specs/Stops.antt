-- The exit statuses of what stops a link, and what is told of it.
use Rattle.std.specs.Prelude.{ℕ, List, codes}
use Rattle.doslink_passes.specs.declared.stop.Stop.{Stop}
use Rattle.doslink_passes.specs.declared.stop.Stop.TheVariants.{Input, Device, Memory}

-- 1 where an input is at fault, 3 where a device or memory failed
abbrev pub stop_status : Stop → ℕ
stop_status Input = 1
stop_status Device = 3
stop_status Memory = 3

-- the lines, or that there was no memory
abbrev pub stop_text : Stop → (lines : List ℕ) → List ℕ
stop_text Input lines = lines
stop_text Device lines = lines
stop_text Memory lines = codes "doslink: memory\n"

-- where an input is at fault this holds
abbrev pub OnInput : Stop → Type 0 → Type 0
OnInput Input P = P
OnInput Device P = Unit {0}
OnInput Memory P = Unit {0}
