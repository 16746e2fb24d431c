-- Whether sums of what was of 32 bits have more than 16, in the program of modules.
use Rattle.std.specs.Prelude.{◌≡◌, ◌⊎◌, ℕ, Bool, true, is_some, List, Ok}
use Rattle.std.specs.declared.option.Option.{Option}
use Rattle.std.specs.List.{list_any}
use Rattle.omf_image.specs.Overflow.{first_overflow, start_overflow}
use Rattle.omf_module.specs.Module.{Module}
use Rattle.omf_place.specs.Faults.{IsPlacedAs}
use Rattle.omf_place.specs.Layout.{Layout}
use Rattle.omf_place.specs.declared.names.Names.{Names}
use Rattle.omf_plain.specs.declared.widths.Widths.{Widths}

-- a fix-up of some module was of 32 bits
abbrev pub narrow_fixups : List Widths → Bool
narrow_fixups widths = list_any (λ w. w.fixups) widths

-- the start of some module was
abbrev pub narrow_start : List Widths → Bool
narrow_start widths = list_any (λ w. w.start) widths

-- in the program of modules this finds a sum that has more than 16 bits
abbrev pub HaveOverflow : (found : Layout → List Module → Option (ℕ × ℕ)) → Names → List Module → Type 0
HaveOverflow found names modules =
    (layout : Layout) × IsPlacedAs names modules (Ok layout) × (is_some (found layout modules) ≡ true)

-- none has, of what there is
pub record AllFit (widths : List Widths) (names : Names) (modules : List Module) : Type 0 where
  pub fixups : narrow_fixups widths ≡ true → HaveOverflow first_overflow names modules → ⊥
  pub start : narrow_start widths ≡ true → HaveOverflow start_overflow names modules → ⊥

-- that of a fix-up has, or that of a start of 32 bits
abbrev pub SomeOverflows : List Widths → Names → List Module → Type 0
SomeOverflows widths names modules =
    HaveOverflow first_overflow names modules
    ⊎ ((narrow_start widths ≡ true) × HaveOverflow start_overflow names modules)
