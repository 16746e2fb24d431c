-- What writing a map answers.
use Rattle.std.proofs.Common.{◌≡◌, ℕ, ◌+◌, List, Option, Result, Ok, Err}
use Rattle.std.specs.Result.{IsErrAnd}
use Rattle.omf_frame.specs.Device.{AppendsFront}
use Rattle.link_map.specs.declared.fault.MapFault.{MapFault}
use Rattle.link_map.specs.declared.fault.MapFault.TheVariants.{Device, Memory}
use Rattle.link_map.specs.Map.{WritesMap}

module _ {K X : Type 0} (written : K → Option (List ℕ)) (failures : K → ℕ) (old new : K) (text : List ℕ) where
  pub no_memory : (r : Result X MapFault) → IsErrAnd r (λ e. e ≡ Memory) → new ≡ old
      → WritesMap written failures old new text r
  no_memory (Ok x) is same = absurd is
  no_memory (Err Memory) is same = same
  no_memory (Err Device) is same = let z : Device ≡ Memory = is in let never : ⊥ = cc in absurd never

  pub not_put : (r : Result X MapFault) → IsErrAnd r (λ e. e ≡ Device)
      → AppendsFront (written old) (written new) text × (failures new ≡ failures old + 1)
      → WritesMap written failures old new text r
  not_put (Ok x) is wrote = absurd is
  not_put (Err Device) is wrote = wrote
  not_put (Err Memory) is wrote = let z : Memory ≡ Device = is in let never : ⊥ = cc in absurd never
