-- What making an order module answers.
use Rattle.std.proofs.Common.{ℕ, List, Vec, Some, None, Ok, Err, ◌≡◌, ◌≢◌, is_some, inl, inr, refl, ap, subst}
use Rattle.std.proofs.Common.{MatchResult, Result}
use Rattle.std.specs.declared.option.Option.{Option}
use Rattle.std.specs.Option.{option_map}
use Rattle.omf_module.specs.Module.{Module}
use Rattle.omf_order.specs.declared.fault.OrderFault.{OrderFault}
use Rattle.omf_order.specs.declared.fault.OrderFault.TheVariants as kind
use Rattle.omf_order.specs.Answer.{Answers}
use Rattle.omf_order.specs.Cleared.{data_in_bss}
use Rattle.omf_order.specs.Plan.{plan}
use Rattle.omf_order.specs.declared.order.Order.{Order}
use Rattle.doslink_passes.specs.Orders.{Asking, HasNoPlan, IsAsked, IsOrderFor, IsOrderModule}
use Rattle.doslink_passes.specs.Stops.{OnInput}
use Rattle.doslink_passes.specs.declared.stop.Stop.{Stop}
use Rattle.doslink_passes.proofs.Refused.{steps-weaker}

-- the order module, where it would change something
pub in-order : {A : Type 0} (asking : Asking) (modules : List Module) (order : Order) → IsAsked asking order
    → (made : Option (Vec ℕ A))
    → Answers order (plan order asking.names modules) (data_in_bss modules (plan order asking.names modules)) (Ok made)
    → IsOrderFor asking modules (option_map (λ v. v.items) made)
in-order asking modules order is None answers = (order, is, answers)
in-order asking modules order is (Some b) answers = (order, is, (answers.0.0, answers.1, answers.2))

-- why there is none, unless there was no memory
pub no-order : (A : Type 0) (asking : Asking) (modules : List Module) (order : Order) (fault : OrderFault)
    → IsAsked asking order
    → Answers {A = A} order (plan order asking.names modules) (data_in_bss modules (plan order asking.names modules))
    (Err fault)
    → fault ≢ kind.Memory → HasNoPlan asking modules
no-order A asking modules order kind.Memory is answers other = absurd (other refl)
no-order A asking modules order kind.TooManySegments is answers other = (order, is, inl answers.1)
no-order A asking modules order (kind.DataInBss input segment) is answers other =
    (order, is, inr (ap is_some answers.1))

-- the order module that is asked for is the one of these modules, or there is none for the same reason
pub order-weaker : {A : Type 0} (r : Result (Option (Vec ℕ A)) Stop) (a b : Asking) (ms ns : List Module) → a ≡ b
    → ms ≡ ns
    → MatchResult r (λ o. IsOrderFor a ms (option_map (λ v. v.items) o)) (λ stop. OnInput stop (HasNoPlan a ms))
    → MatchResult r (λ o. IsOrderModule b ns (option_map (λ v. v.items) o)) (λ stop. OnInput stop (HasNoPlan b ns))
order-weaker r a b ms ns asked same done =
    subst
    (λ x. MatchResult r (λ o. IsOrderModule x ns (option_map (λ v. v.items) o)) (λ stop. OnInput stop (HasNoPlan x ns)))
    asked
    (subst
    (λ ys. MatchResult r (λ o. IsOrderModule a ys (option_map (λ v. v.items) o))
    (λ stop. OnInput stop (HasNoPlan a ys)))
    same (steps-weaker r (λ o planned. inr planned) (λ none. none) done))
