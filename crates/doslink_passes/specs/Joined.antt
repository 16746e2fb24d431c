-- What is linked for modules beside these.
use Rattle.std.specs.Prelude.{◌≡◌, ◌⊎◌, nat_lt, Bool, true, false, List}
use Rattle.std.specs.declared.option.Option.{Option}
use Rattle.std.specs.List.{list_any}
use Rattle.omf_communal.specs.Deciding.{Variable}
use Rattle.omf_module.specs.Module.{Module}
use Rattle.doslink_words.specs.declared.job.Stack.{Stack}
use Rattle.doslink_passes.specs.Communals.{HasCommunal, HasNoCommunal}
use Rattle.doslink_passes.specs.Linked.{Linked}
use Rattle.doslink_passes.specs.Orders.{Asking}
use Rattle.doslink_passes.specs.Stacks.{NotStackedInOrder, StackedInOrder}

-- a segment of some module has a byte, with a value or without one
abbrev pub have_bytes : List Module → Bool
have_bytes modules = list_any (λ m. list_any (λ s. nat_lt 0 s.length) m.segments) modules

-- Modules are linked with the module of their communal variables behind them, and with the stack that is asked for; the
-- order module stands in front of all, where there is one. Something of them has a byte.
pub record AreJoined (asking : Asking) (stack : Option Stack) (l : Linked) (vs : List Variable) (linked : Linked)
    : Type 0 where
  pub all : Linked
  pub communal : HasCommunal l vs all
  pub filled : have_bytes all.modules ≡ true
  pub stacked : StackedInOrder asking stack all linked

-- Nothing can be linked for modules with these communal variables of theirs: these have no place, nothing has a byte,
-- the stack can't be as long as is asked for, or the order module can't be made.
abbrev pub AreNotJoined : Asking → Option Stack → Linked → List Variable → Type 0
AreNotJoined asking stack l vs =
    HasNoCommunal l.modules vs
    ⊎ ((all : Linked) × HasCommunal l vs all
    × ((have_bytes all.modules ≡ false) ⊎ NotStackedInOrder asking stack all))
