-- What the steps of making an order module answer, as the whole answers it.
use Rattle.std.proofs.Common.{◌≡◌, ◌≤◌, ℕ, false, List, Option, Some, Ok, Err, Vec, length, subst}
use Rattle.omf_module.specs.Module.{Module}
use Rattle.omf_order.specs.declared.fault.OrderFault.{OrderFault}
use Rattle.omf_order.specs.declared.fault.OrderFault.TheVariants.{Memory, TooManySegments, DataInBss}
use Rattle.omf_order.specs.declared.order.Order.{Order}
use Rattle.omf_order.specs.Answer.{Answers}
use Rattle.omf_order.specs.Cleared.{Lost, data_in_bss}
use Rattle.omf_order.specs.Plan.{Plan, is_needless}
use Rattle.omf_order.specs.inside.Refusals.{IsLost, IsPlanned, IsRefusal}

pub refused_by : (p : Plan) (lost : Option Lost) (f : OrderFault) → length p.parts ≤ 16383 → IsLost lost f
    → IsRefusal p lost f
refused_by p lost Memory few h = tt
refused_by p lost TooManySegments few h = absurd h
refused_by p lost (DataInBss input segment) few h = (few, h)

answered_by : (A : Type 0) (order : Order) (p : Plan) (lost : Option Lost) (f : OrderFault) →
    is_needless order p ≡ false → IsRefusal p lost f → Answers {A = A} order p lost (Err f)
answered_by A order p lost Memory n h = tt
answered_by A order p lost TooManySegments n h = (n, h)
answered_by A order p lost (DataInBss input segment) n h = ((n, h.0), h.1)

pub refusal_is : (A : Type 0) (order : Order) (program : List Module) (p q : Plan) (f : OrderFault) → p ≡ q →
    is_needless order p ≡ false → IsRefusal p (data_in_bss program p) f →
    Answers {A = A} order q (data_in_bss program q) (Err f)
refusal_is A order program p q f e n h =
    subst (λ r. Answers {A = A} order r (data_in_bss program r) (Err f)) e
    (answered_by A order p (data_in_bss program p) f n h)

pub answer_is : {A : Type 0} (order : Order) (program : List Module) (p q : Plan) (bytes : Vec ℕ A) → p ≡ q →
    is_needless order p ≡ false → IsPlanned p (data_in_bss program p) bytes.items →
    Answers {A = A} order q (data_in_bss program q) (Ok (Some bytes))
answer_is {A} order program p q bytes e n h =
    subst (λ r. Answers {A = A} order r (data_in_bss program r) (Ok (Some bytes))) e ((n, h.0), h.1, h.2)
