-- What making a module of variables answers.
use Rattle.std.specs.Prelude.{◌≡◌, ℕ, Bool, true, false, List, [], ◌∷◌, Option, None, Some, Ok, Err}
use Rattle.std.specs.declared.result.Result.{Result}
use Rattle.omf_library.specs.Records.{result_and_then}
use Rattle.omf_communal.specs.declared.fault.PlanFault.{PlanFault}
use Rattle.omf_communal.specs.declared.fault.PlanFault.TheVariants.{NearTooLong, CutElement, TooManySegments, Memory}
use Rattle.omf_communal.specs.Deciding.{Variable}
use Rattle.omf_communal.specs.Plan.{nothing_before, plan, segments_before}
use Rattle.omf_communal.specs.Records.{module_bytes}

-- the bytes of a module that has these variables, local ones or a program's; none, where there are none; or the first
-- fault
abbrev pub variable_module : (local in_bss : Bool) → List Variable → Result (Option (List ℕ)) PlanFault
variable_module local in_bss [] = Ok None
variable_module local in_bss (v ∷ vs) =
    result_and_then (λ p. Ok (Some (module_bytes local in_bss p))) (plan nothing_before (v ∷ vs))

-- of a program's
abbrev pub communal_module : (in_bss : Bool) → List Variable → Result (Option (List ℕ)) PlanFault
communal_module in_bss vs = variable_module false in_bss vs

-- of local ones that are to stand behind so many segments of their module: a fault is that of their plan there
abbrev pub local_module_bytes : (in_bss : Bool) → (segments : ℕ) → List Variable → Result (Option (List ℕ)) PlanFault
local_module_bytes in_bss segments [] = Ok None
local_module_bytes in_bss segments (v ∷ vs) =
    result_and_then (λ there. variable_module true in_bss (v ∷ vs)) (plan (segments_before segments) (v ∷ vs))

-- the fault is that one, unless it is want of memory
abbrev pub IsPlanFault : {A : Type 0} → PlanFault → Result A PlanFault → Type 0
IsPlanFault (NearTooLong variable) stands = stands ≡ Err (NearTooLong variable)
IsPlanFault (CutElement variable) stands = stands ≡ Err (CutElement variable)
IsPlanFault (TooManySegments variable) stands = stands ≡ Err (TooManySegments variable)
IsPlanFault Memory stands = Unit {0}
