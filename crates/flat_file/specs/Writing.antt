-- What writing a form of the file answers, and what was written.
use Rattle.std.specs.Prelude.{◌≡◌, ℕ, List, IsOkUnless, Some, None, Err}
use Rattle.std.specs.declared.option.Option.{Option}
use Rattle.std.specs.declared.result.Result.{Result}
use Rattle.omf_frame.specs.Device.{Writes}
use Rattle.flat_file.specs.declared.fault.FormFault.{FormFault}
use Rattle.flat_file.specs.declared.fault.FlatFault.{FlatFault}
use Rattle.flat_file.specs.declared.fault.FlatFault.TheVariants.{Form, Device}

-- Where a fault stands, it is answered and the sink isn't called. Else all of the file was written and the sink never
-- failed; or a front of it was, the sink failed once, and the answer is Device.
abbrev pub WritesForm : {K X : Type 0} → (written : K → Option (List ℕ)) → (failures : K → ℕ) → (old new : K)
    → (fault : Option FormFault) → (file : List ℕ) → Result X FlatFault → Type 0
WritesForm written failures old new (Some fault) file answer =
    (answer ≡ Err (Form fault)) × (written new ≡ written old) × (failures new ≡ failures old)
WritesForm written failures old new None file answer =
    IsOkUnless answer Device × Writes written failures old new file answer
