-- What bytes begin with.
use Rattle.std.proofs.Common.{◌≡◌, ℕ, ◌+◌, List, Some, None, Ok, Err, arith, subst}
use Rattle.std.specs.declared.option.Option.{Option}
use Rattle.std.specs.declared.result.Result.{Result}
use Rattle.omf_record.specs.Records.{Placed}
use Rattle.omf_module.specs.Bytes.{ReadingFault}
use Rattle.omf_module.specs.Module.{Module}
use Rattle.omf_module.specs.Reading.{Reads, failures_in}
use Rattle.omf_module.specs.declared.fault.FaultKind.{FaultKind}
use Rattle.omf_module.specs.declared.fault.FaultKind.TheVariants as kind
use Rattle.omf_module.specs.declared.fault.ModuleFault.{ModuleFault}
use Rattle.omf_module.specs.declared.fault.ModuleFault.TheVariants as fault
use Rattle.omf_module.proofs.Once.{no_fault}
use Rattle.doslink_link.specs.Reading.{BeginsWith, IsReading}

-- what a source answers that never failed
pub is-reading : (bytes : List ℕ) (new : Option (List ℕ)) (r : Result Module ModuleFault)
    → Reads (λ m. m) (Some bytes) new r → 0 ≡ 0 + failures_in r → IsReading bytes r
unfolding Reads
is-reading bytes None (Ok one) (rs, front, is, consumed, same) works = absurd consumed
is-reading bytes (Some rest) (Ok one) (rs, front, is, consumed, same) works = (rs, (front, rest, consumed, is), same)
is-reading bytes new (Err fault.Memory) reads works = tt
is-reading bytes new (Err (fault.Record place kind.Device)) reads works = absurd (omega (arith, works))
is-reading bytes new (Err (fault.Record place (kind.Absent why))) reads works = reads.7
is-reading bytes new (Err (fault.Record place (kind.Check check))) reads works = reads.7

-- they begin with no module where reading them has a fault
pub unread-begins : (rs : List Placed) (bytes : List ℕ) (place : ℕ) (found : FaultKind) → ReadingFault bytes place found
    → BeginsWith rs bytes → ⊥
unread-begins rs bytes place found unread (front, rest, is, sound) =
    no_fault rs front rest place found sound (subst (λ l. ReadingFault l place found) is unread)
