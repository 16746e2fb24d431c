-- What the steps of making an order module answer.
use Rattle.std.specs.Prelude.{◌≡◌, ◌<◌, ◌≤◌, ℕ, List, Option, Some, None, length}
use Rattle.omf_order.specs.declared.fault.OrderFault.{OrderFault}
use Rattle.omf_order.specs.declared.fault.OrderFault.TheVariants.{Memory, TooManySegments, DataInBss}
use Rattle.omf_order.specs.Answer.{part_limit}
use Rattle.omf_order.specs.Cleared.{Lost}
use Rattle.omf_order.specs.Plan.{Plan}
use Rattle.omf_order.specs.Records.{module_bytes}

-- data would be cleared, or memory ran out
abbrev pub IsLost : Option Lost → OrderFault → Type 0
IsLost lost Memory = Unit {0}
IsLost lost TooManySegments = ⊥
IsLost lost (DataInBss input segment) = lost ≡ Some (record { input = input; segment = segment.now })

-- so it is, or there are too many parts
abbrev pub IsRefusal : Plan → Option Lost → OrderFault → Type 0
IsRefusal p lost Memory = Unit {0}
IsRefusal p lost TooManySegments = part_limit < length p.parts
IsRefusal p lost (DataInBss input segment) =
    (length p.parts ≤ part_limit) × (lost ≡ Some (record { input = input; segment = segment.now }))

-- the bytes of a plan in which nothing is cleared
abbrev pub IsPlanned : Plan → Option Lost → List ℕ → Type 0
IsPlanned p lost bytes = (length p.parts ≤ part_limit) × (lost ≡ None) × (bytes ≡ module_bytes p)
