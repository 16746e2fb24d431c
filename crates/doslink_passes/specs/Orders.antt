-- The order module of a link.
use Rattle.std.specs.Prelude.{◌≡◌, ◌⊎◌, ◌&&◌, ◌<◌, ℕ, Bool, not, true, false, is_some, length, List, map}
use Rattle.std.specs.Prelude.{None, Some, MatchOption}
use Rattle.std.specs.List.{list_any}
use Rattle.std.specs.Prelude.{if◌then◌else◌}
use Rattle.std.specs.declared.option.Option.{Option}
use Rattle.omf_module.specs.Module.{Module}
use Rattle.omf_order.specs.declared.order.Item.{Item}
use Rattle.omf_order.specs.declared.order.Item.TheVariants as item
use Rattle.omf_order.specs.declared.order.Order.{Order}
use Rattle.omf_order.specs.declared.order.Order.TheVariants as order
use Rattle.omf_order.specs.Answer.{part_limit}
use Rattle.omf_order.specs.Cleared.{data_in_bss}
use Rattle.omf_order.specs.Plan.{is_needless, plan}
use Rattle.omf_order.specs.Records.{module_bytes}
use Rattle.omf_place.specs.declared.names.Names.{Names}
use Rattle.doslink_link.specs.Reading.{IsNoModule}
use Rattle.doslink_stock.specs.Files.{Held}
use Rattle.doslink_words.specs.declared.job.Job.{Job}
use Rattle.doslink_words.specs.Said.{SaidItem, SaidOrder, Class, Segment, Meeting, Dosseg, Listed, order_of}
use Rattle.doslink_passes.specs.Linked.{HasFront, Linked}
use Rattle.doslink_passes.specs.Request.{names_of}

-- What asks for an order: which names agree, whether marks are wanted that no module defines, whether a module asks for
-- DOSSEG, the order that the job asks for, and whether DOSSEG has null bytes in front of `_TEXT`.
pub record Asking : Type 0 where
  pub names : Names
  pub marks : Bool
  pub dosseg : Bool
  pub order : SaidOrder
  pub null_bytes : Bool

-- what an order says
abbrev pub item_said : Item → SaidItem
item_said (item.Class name) = Class name.now
item_said (item.Segment name) = Segment name.now

abbrev pub order_said : Order → SaidOrder
order_said order.Meeting = Meeting
order_said (order.Dosseg null_bytes) = Dosseg
order_said (order.Listed items) = Listed (map item_said items.now)

-- where an order is DOSSEG, it has null bytes as it is asked for
abbrev pub HasNulls : (null_bytes : Bool) → Order → Type 0
HasNulls null_bytes (order.Dosseg nulls) = nulls ≡ null_bytes
HasNulls null_bytes other = Unit {0}

-- the order that is asked for: by the job, and where that asks for none by a module
abbrev pub order_asked : SaidOrder → (dosseg : Bool) → SaidOrder
order_asked Meeting dosseg = if dosseg then Dosseg else Meeting
order_asked Dosseg dosseg = Dosseg
order_asked (Listed items) dosseg = Listed items

-- this is the order that is asked for
abbrev pub IsAsked : Asking → Order → Type 0
IsAsked asking order =
    (order_said order ≡ order_asked asking.order asking.dosseg) × HasNulls asking.null_bytes order

-- neither is an order asked for nor a mark wanted
abbrev pub is_unasked : (marks dosseg : Bool) → SaidOrder → Bool
is_unasked marks dosseg Meeting = not dosseg && not marks
is_unasked marks dosseg Dosseg = false
is_unasked marks dosseg (Listed items) = false

-- These bytes are the order module for modules, in this order; there are none exactly where it would change nothing.
-- No data with values stands where start-up code clears it by the marks.
abbrev pub IsPlanned : Names → Order → List Module → (bytes : Option (List ℕ)) → Type 0
IsPlanned names order modules bytes =
    let p = plan order names modules in
    MatchOption bytes (is_needless order p ≡ true)
    (λ b. (is_needless order p ≡ false) × (data_in_bss modules p ≡ None) × (b ≡ module_bytes p))

-- the same in the order that is asked for
abbrev pub IsOrderFor : Asking → List Module → (bytes : Option (List ℕ)) → Type 0
IsOrderFor asking modules bytes =
    (order : Order) × IsAsked asking order × IsPlanned asking.names order modules bytes

-- These bytes are the order module for modules. There are none too where neither an order is asked for nor a mark
-- wanted.
abbrev pub IsOrderModule : Asking → List Module → (bytes : Option (List ℕ)) → Type 0
IsOrderModule asking modules bytes =
    ((is_unasked asking.marks asking.dosseg asking.order ≡ true) × (bytes ≡ None)) ⊎ IsOrderFor asking modules bytes

-- what is linked, with its order module in front of it, where it has one
abbrev pub IsOrdered : Asking → Linked → (has_order : Bool) → (all : Linked) → Type 0
IsOrdered asking l false all = IsOrderModule asking l.modules None × (all ≡ l)
IsOrdered asking l true all =
    (bytes : List ℕ) × IsOrderModule asking l.modules (Some bytes) × HasFront l bytes all

-- the order module for modules, in the order that is asked for, would have too many segments, or start-up code would
-- clear data with values by its marks
abbrev pub HasNoPlan : Asking → List Module → Type 0
HasNoPlan asking modules =
    (order : Order) × IsAsked asking order
    × ((part_limit < length (plan order asking.names modules).parts)
    ⊎ (is_some (data_in_bss modules (plan order asking.names modules)) ≡ true))

-- so it is, or it is longer than an input may be
abbrev pub HaveNoOrder : Asking → List Module → Type 0
HaveNoOrder asking modules =
    HasNoPlan asking modules
    ⊎ ((bytes : List ℕ) × IsOrderModule asking modules (Some bytes) × IsNoModule bytes)

-- what asks for the order of a job's modules, where marks are wanted or not
abbrev pub asking_of : Job → (marks : Bool) → (modules : List Held) → Asking
asking_of job marks modules = record {
  names = names_of job.ignore_case;
  marks = marks;
  dosseg = list_any (λ m. m.dosseg) modules;
  order = order_of job.order;
  null_bytes = job.null_bytes;
}
