-- Whether sums have more than 16 bits, as it is held.
use Rattle.std.specs.Prelude.{◌≡◌, ◌⊎◌, ℕ, true, List, MatchOption}
use Rattle.std.specs.declared.option.Option.{Option}
use Rattle.omf_image.specs.Overflow.{first_overflow, start_overflow}
use Rattle.omf_module.specs.Module.{Module}
use Rattle.omf_place.specs.declared.names.Names.{Names}
use Rattle.doslink_passes.specs.declared.sums.Narrowed.{Narrowed}
use Rattle.doslink_passes.specs.Sums.{HaveOverflow}

-- none has, of what there is
pub record NoneOverflows (narrowed : Narrowed) (names : Names) (modules : List Module) : Type 0 where
  pub fixups : HaveOverflow first_overflow names modules → ⊥
  pub start : narrowed.start ≡ true → HaveOverflow start_overflow names modules → ⊥

-- this says of which one, if any
abbrev pub TellsSums : Narrowed → Names → List Module → Option (ℕ × ℕ) → Type 0
TellsSums narrowed names modules at =
    MatchOption at (NoneOverflows narrowed names modules)
    (λ one. HaveOverflow first_overflow names modules
    ⊎ ((narrowed.start ≡ true) × HaveOverflow start_overflow names modules))
