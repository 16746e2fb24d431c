-- The bytes of a form, made in memory.
use Rattle.std.specs.Prelude.{◌≡◌, ℕ, List, None, Some, Ok, Err}
use Rattle.std.specs.declared.option.Option.{Option}
use Rattle.std.specs.declared.result.Result.{Result}
use Rattle.flat_file.specs.declared.fault.FlatFault.{FlatFault}
use Rattle.flat_file.specs.declared.fault.FlatFault.TheVariants as flat
use Rattle.flat_file.specs.declared.fault.FormFault.{FormFault}

-- what writing bytes in memory answers, where a fault keeps them from being written or none does
abbrev pub Makes : {V : Type 0} → (items : V → List ℕ) → Option FormFault → (bytes : List ℕ) → Result V FlatFault
    → Type 0
Makes items fault bytes (Ok file) = (fault ≡ None) × (items file ≡ bytes)
Makes items fault bytes (Err (flat.Form first)) = fault ≡ Some first
Makes items fault bytes (Err flat.Device) = Unit {0}
