-- The warning of a stack that is cut (docs/DOSLINK.md, "The stack").
use Rattle.std.specs.Prelude.{◌≡◌, ℕ, Bool, List, [], ◌++◌, None, Some}
use Rattle.std.specs.declared.option.Option.{Option}
use Rattle.omf_stack.specs.Answer.{Added, Answer, Enough, TooLong, answer}
use Rattle.doslink_telling.specs.Warnings.{cut_stack_line}
use Rattle.doslink_words.specs.declared.job.Stack.{Stack}
use Rattle.doslink_passes.specs.Linked.{Linked}
use Rattle.doslink_passes.specs.Orders.{Asking, IsOrdered}

-- of modules whose stack has this answer: a warning where they have a longer one than is asked for
abbrev pub cut_warning : Stack → Answer → List ℕ
cut_warning asked Enough = []
cut_warning asked (Added bytes) = []
cut_warning asked TooLong = cut_stack_line asked.bytes

-- this is the warning of what is linked, behind the order module that it has; none where no length is asked for
abbrev pub HasCutWarning : Asking → Option Stack → Linked → (warning : List ℕ) → Type 0
HasCutWarning asking None l warning = warning ≡ []
HasCutWarning asking (Some asked) l warning =
    (has_order : Bool) × (front : Linked) × IsOrdered asking l has_order front
    × (warning ≡ cut_warning asked (answer front.modules asked.bytes))

-- lines have such a warning behind them that they had not before
abbrev pub AreCutTold : Asking → Option Stack → Linked → (old new : List ℕ) → Type 0
AreCutTold asking stack l old new = (warning : List ℕ) × HasCutWarning asking stack l warning × (new ≡ old ++ warning)
