-- Where the input begins with a whole sound module, it is answered; where it has a reading fault, that is answered.
use Rattle.std.proofs.Common.{◌≡◌, ℕ, List, ◌++◌, None, Some, Ok, Err, Result, sym, ap, subst, ◌∙◌}
use Rattle.std.specs.declared.option.Option.{Option}
use Rattle.omf_record.specs.Records.{Placed}
use Rattle.omf_module.specs.declared.fault.FaultKind.{FaultKind}
use Rattle.omf_module.specs.declared.fault.FaultKind.TheVariants as kind
use Rattle.omf_module.specs.declared.fault.ModuleFault.{ModuleFault}
use Rattle.omf_module.specs.declared.fault.ModuleFault.TheVariants as fault
use Rattle.omf_module.specs.Module.{Module}
use Rattle.omf_module.specs.Tables.{module_of}
use Rattle.omf_module.specs.Bytes.{ModuleBytes, ReadingFault}
use Rattle.omf_module.specs.Reading.{Reads, IsModule, IsFault}
use Rattle.omf_module.proofs.Once.{one_module, no_fault, one_fault}

only_told : (rs : List Placed) (bytes rest : List ℕ) (new : Option (List ℕ)) (r : Result Module ModuleFault)
    → ModuleBytes rs bytes → Reads (λ m. m) (Some (bytes ++ rest)) new r → IsModule (λ m. m) (module_of rs) rest new r
unfolding Reads
only_told rs bytes rest None (Ok m) h k = absurd k.3
only_told rs bytes rest (Some left) (Ok m) h k =
    let same = one_module rs k.0 bytes k.1 rest left h k.2 k.3 in
    (k.4 ∙ ap module_of (sym same.0), ap (λ (l : List ℕ). let o : Option (List ℕ) = Some l in o) (sym same.2))
only_told rs bytes rest new (Err fault.Memory) h k = tt
only_told rs bytes rest new (Err (fault.Record place kind.Device)) h k = tt
only_told rs bytes rest new (Err (fault.Record place (kind.Absent why))) h k =
    no_fault rs bytes rest place (kind.Absent why) h k.7
only_told rs bytes rest new (Err (fault.Record place (kind.Check f))) h k =
    no_fault rs bytes rest place (kind.Check f) h k.7

pub only_module : (rs : List Placed) (bytes rest : List ℕ) (old new : Option (List ℕ)) (r : Result Module ModuleFault)
    → ModuleBytes rs bytes → old ≡ Some (bytes ++ rest) → Reads (λ m. m) old new r
    → IsModule (λ m. m) (module_of rs) rest new r
only_module rs bytes rest old new r h e k = only_told rs bytes rest new r h (subst (λ o. Reads (λ m. m) o new r) e k)

fault_told : (bytes : List ℕ) (place : ℕ) (g : FaultKind) (new : Option (List ℕ)) (r : Result Module ModuleFault)
    → ReadingFault bytes place g → Reads (λ m. m) (Some bytes) new r → IsFault place g r
unfolding Reads
fault_told bytes place g None (Ok m) h k = absurd k.3
fault_told bytes place g (Some left) (Ok m) h k =
    no_fault k.0 k.1 left place g k.2 (subst (λ (l : List ℕ). ReadingFault l place g) k.3 h)
fault_told bytes place g new (Err fault.Memory) h k = tt
fault_told bytes place g new (Err (fault.Record p kind.Device)) h k = tt
fault_told bytes place g new (Err (fault.Record p (kind.Absent why))) h k =
    one_fault bytes p place (kind.Absent why) g k.7 h
fault_told bytes place g new (Err (fault.Record p (kind.Check f))) h k = one_fault bytes p place (kind.Check f) g k.7 h

pub only_fault : (bytes : List ℕ) (place : ℕ) (g : FaultKind) (old new : Option (List ℕ))
    (r : Result Module ModuleFault) → ReadingFault bytes place g → old ≡ Some bytes → Reads (λ m. m) old new r
    → IsFault place g r
only_fault bytes place g old new r h e k = fault_told bytes place g new r h (subst (λ o. Reads (λ m. m) o new r) e k)
