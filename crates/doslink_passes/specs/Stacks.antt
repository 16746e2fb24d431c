-- The stack of a link with the length that is asked for.
use Rattle.std.specs.Prelude.{◌≡◌, ◌⊎◌, ℕ, Bool, true, false, IsErr, List, None, Some, Ok}
use Rattle.std.specs.declared.option.Option.{Option}
use Rattle.omf_module.specs.Module.{Module}
use Rattle.omf_stack.specs.Answer.{Added, Answer, Enough, TooLong, answer}
use Rattle.omf_stack.specs.CutModules.{cut_program}
use Rattle.doslink_words.specs.declared.job.Stack.{Stack}
use Rattle.doslink_link.specs.Reading.{IsNoModule}
use Rattle.doslink_passes.specs.Linked.{HasBehind, Linked, behind}
use Rattle.doslink_passes.specs.Orders.{Asking, HaveNoOrder, IsOrdered}

-- what is linked, with its stack cut to a length
abbrev pub IsCut : Linked → (bytes : ℕ) → (all : Linked) → Type 0
IsCut l bytes all =
    (modules : List Module) × (cut_program l.modules bytes ≡ Ok modules)
    × (all ≡ record { sources = l.sources; modules = modules })

-- What is linked of these, where with their order module in front of them the stack has this answer: the same, or a
-- module with what the stack lacks behind them, or they with a stack that is cut to the length, where that is asked
-- for.
abbrev pub IsStacked : Stack → (has_order : Bool) → (l front stacked : Linked) → Answer → Type 0
IsStacked asked has_order l front stacked Enough = stacked ≡ l
IsStacked asked has_order l front stacked (Added bytes) = HasBehind l bytes stacked
IsStacked asked has_order l front stacked TooLong =
    (asked.cuts ≡ true) × (all : Linked) × IsCut front asked.bytes all × (stacked ≡ behind has_order all)

-- These are linked with a stack as long as is asked for, the order module that they would have in front of them saying
-- which segments its parts are.
abbrev pub AreStacked : Asking → Option Stack → (l stacked : Linked) → Type 0
AreStacked asking None l stacked = stacked ≡ l
AreStacked asking (Some asked) l stacked =
    (has_order : Bool) × (front : Linked) × IsOrdered asking l has_order front
    × IsStacked asked has_order l front stacked (answer front.modules asked.bytes)

-- so are these, with their order module in front of them
abbrev pub StackedInOrder : Asking → Option Stack → (l all : Linked) → Type 0
StackedInOrder asking stack l all =
    (stacked : Linked) × AreStacked asking stack l stacked × (has_order : Bool) × IsOrdered asking stacked has_order all

-- The stack can't have the length that is asked for, by this answer: the modules ask for more, and it isn't to be cut,
-- or data lies outside of it then; or the module with what it lacks is none.
abbrev pub IsUnstacked : Stack → (front : Linked) → Answer → Type 0
IsUnstacked asked front Enough = ⊥
IsUnstacked asked front (Added bytes) = IsNoModule bytes
IsUnstacked asked front TooLong =
    (asked.cuts ≡ false) ⊎ ((asked.cuts ≡ true) × IsErr (cut_program front.modules asked.bytes))

-- so it is, or the order module can't be made
abbrev pub HasNoStack : Asking → Option Stack → Linked → Type 0
HasNoStack asking None l = ⊥
HasNoStack asking (Some asked) l =
    HaveNoOrder asking l.modules
    ⊎ ((has_order : Bool) × (front : Linked) × IsOrdered asking l has_order front
    × IsUnstacked asked front (answer front.modules asked.bytes))

-- so it is, or the order module can't be made of what has such a stack
abbrev pub NotStackedInOrder : Asking → Option Stack → Linked → Type 0
NotStackedInOrder asking stack l =
    HasNoStack asking stack l
    ⊎ ((stacked : Linked) × AreStacked asking stack l stacked × HaveNoOrder asking stacked.modules)
