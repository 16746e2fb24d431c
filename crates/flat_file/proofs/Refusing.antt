-- What a writer of a form says, by whether a fault stands.
use Rattle.std.proofs.Common.{◌≡◌, ℕ, Bool, true, false, cond, List, Option, Some, None, Result, Err, sym, subst}
use Rattle.std.specs.Prelude.{IsOkUnless}
use Rattle.omf_frame.specs.Device.{Writes}
use Rattle.omf_frame.proofs.Told.{Wrote-same}
use Rattle.flat_file.specs.declared.fault.FormFault.{FormFault}
use Rattle.flat_file.specs.declared.fault.FlatFault.{FlatFault}
use Rattle.flat_file.specs.declared.fault.FlatFault.TheVariants.{Form, Device}
use Rattle.flat_file.specs.Writing.{WritesForm}

module _ {K X : Type 0} (written : K → Option (List ℕ)) (failures : K → ℕ) (old new : K) (fault : Option FormFault)
    (file : List ℕ) (answer : Result X FlatFault) where
  pub refused : (f : FormFault) → fault ≡ Some f → answer ≡ Err (Form f) → written new ≡ written old
      → failures new ≡ failures old → WritesForm written failures old new fault file answer
  refused f stands is same count =
      subst (λ (o : Option FormFault). WritesForm written failures old new o file answer) (sym stands)
      (is, same, count)

  pub let_through : (text : List ℕ) → fault ≡ None → text ≡ file → IsOkUnless answer Device
      → Writes written failures old new text answer → WritesForm written failures old new fault file answer
  let_through text none same device wrote =
      subst (λ (o : Option FormFault). WritesForm written failures old new o file answer) (sym none)
      (device, Wrote-same _ _ _ _ text file answer same wrote)

-- what one of two writers says, of the file that is meant
module _ {K X : Type 0} (written : K → Option (List ℕ)) (failures : K → ℕ) (old new : K) (answer : Result X FlatFault)
    (fault other : Option FormFault) (file others : List ℕ) where
  pub of_first : (b : Bool) → b ≡ true → WritesForm written failures old new fault file answer
      → WritesForm written failures old new (cond b fault other) (cond b file others) answer
  of_first true is writes = writes
  of_first false is writes = cc

  pub of_second : (b : Bool) → b ≡ false → WritesForm written failures old new other others answer
      → WritesForm written failures old new (cond b fault other) (cond b file others) answer
  of_second true is writes = cc
  of_second false is writes = writes
