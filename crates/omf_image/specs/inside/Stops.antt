-- A fix-up's fault with its record.
use Rattle.std.specs.Prelude.{ℕ, Option}
use Rattle.std.specs.Option.{option_map, option_or}
use Rattle.omf_image.specs.declared.faults.FixFault.{FixFault}
use Rattle.omf_image.specs.declared.faults.FixFault.TheVariants.{At, Memory}
use Rattle.omf_image.specs.declared.faults.FixKind.{FixKind}
use Rattle.omf_image.specs.declared.faults.Stop.{Stop}
use Rattle.omf_image.specs.declared.faults.Stop.TheVariants as stop

-- a fault of this kind at an input and a place in it; the rest where there is none
abbrev pub or_else : Option FixKind → (at : ℕ × ℕ) → (rest : Option FixFault) → Option FixFault
or_else kind at rest = option_or (option_map (λ k. At k at.0 at.1) kind) rest

-- why a fix-up of a record was not added, as a fault
abbrev pub stopped : Stop → (input place : ℕ) → FixFault
stopped (stop.Kind kind) input place = At kind input place
stopped stop.Memory input place = Memory
