-- What is linked: modules, and beside each the bytes that it was given as, or made of.
use Rattle.std.specs.Prelude.{◌≡◌, ℕ, Bool, true, false, List, [], ◌∷◌, ◌++◌, drop}
use Rattle.omf_module.specs.Module.{Module}
use Rattle.doslink_link.specs.Reading.{IsRead}

pub record Linked : Type 0 where
  pub sources : List (List ℕ)
  pub modules : List Module

-- behind these stands the module that these bytes begin with
abbrev pub HasBehind : Linked → (bytes : List ℕ) → Linked → Type 0
HasBehind l bytes all =
    (m : Module) × IsRead bytes m
    × (all ≡ record { sources = l.sources ++ bytes ∷ []; modules = l.modules ++ m ∷ [] })

-- in front of these does
abbrev pub HasFront : Linked → (bytes : List ℕ) → Linked → Type 0
HasFront l bytes all =
    (m : Module) × IsRead bytes m × (all ≡ record { sources = bytes ∷ l.sources; modules = m ∷ l.modules })

-- without the first
abbrev pub behind_first : Linked → Linked
behind_first l = record { sources = drop 1 l.sources; modules = drop 1 l.modules }

-- the same where there is one in front
abbrev pub behind : (has_front : Bool) → Linked → Linked
behind true l = behind_first l
behind false l = l
