-- What making an order module answers.
use Rattle.std.specs.Prelude.{◌≡◌, ◌<◌, ◌≤◌, ℕ, true, false, length, None, Some, Ok, Err, Vec}
use Rattle.std.specs.declared.option.Option.{Option}
use Rattle.std.specs.declared.result.Result.{Result}
use Rattle.omf_order.specs.declared.fault.OrderFault.{OrderFault}
use Rattle.omf_order.specs.declared.fault.OrderFault.TheVariants.{Memory, TooManySegments, DataInBss}
use Rattle.omf_order.specs.declared.order.Order.{Order}
use Rattle.omf_order.specs.Cleared.{Lost}
use Rattle.omf_order.specs.Plan.{Plan, is_needless}
use Rattle.omf_order.specs.Records.{module_bytes}

-- how many parts an order module has at most: each has two names behind DGROUP, and an index is at most 32,767
abbrev pub part_limit : ℕ
part_limit = 16383

-- there is something to order or a name to define, and not too many parts
abbrev pub IsMade : Order → Plan → Type 0
IsMade order p = (is_needless order p ≡ false) × (length p.parts ≤ part_limit)

-- the only answer by a plan, and by the first data that start-up code would clear, unless memory runs out
abbrev pub Answers : {A : Type 0} → Order → Plan → Option Lost → Result (Option (Vec ℕ A)) OrderFault → Type 0
Answers order p lost (Ok None) = is_needless order p ≡ true
Answers order p lost (Ok (Some bytes)) = IsMade order p × (lost ≡ None) × (bytes.items ≡ module_bytes p)
Answers order p lost (Err TooManySegments) = (is_needless order p ≡ false) × (part_limit < length p.parts)
Answers order p lost (Err (DataInBss input segment)) =
    IsMade order p × (lost ≡ Some (record { input = input; segment = segment.now }))
Answers order p lost (Err Memory) = Unit {0}
