-- The statement of a link says each answer by itself: where one last case stands for several, what it says of each.
use Rattle.std.proofs.Common.{◌≡◌, ℕ, Bool, true, false, List, [], ◌∷◌, ◌++◌, length, Some, Err, refl, sym, ap, ap₂}
use Rattle.std.proofs.Common.{◌∙◌, inl, inr, true≢false}
use Rattle.std.specs.declared.option.Option.{Option}
use Rattle.std.specs.Io.KnownBytes.{Keeps}
use Rattle.omf_record.specs.Records.{Placed}
use Rattle.omf_module.specs.declared.fault.FaultKind.{FaultKind}
use Rattle.omf_module.specs.declared.fault.FaultKind.TheVariants as kind
use Rattle.omf_module.specs.declared.fault.ModuleFault.{ModuleFault}
use Rattle.omf_place.specs.declared.names.Names.{Names}
use Rattle.mz.specs.declared.fault.FileFault.{FileFault}
use Rattle.omf_faults.specs.declared.fault.ProgramFault.{ProgramFault}
use Rattle.omf_faults.specs.declared.fault.LinkFault.{LinkFault}
use Rattle.omf_faults.specs.declared.fault.LinkFault.TheVariants as link
use Rattle.omf_commands.specs.Faults.{fault_at}
use Rattle.omf_commands.specs.Inputs.{StopsReading, StopsAtRecord}
use Rattle.omf_commands.specs.Linking.{IsModulesFault, AllRead, Links}
use Rattle.omf_commands.specs.Outcome.{StandsBehind, Outcome, AreTold}
use Rattle.omf_commands.proofs.InputSteps.{as_many}

-- ---- which faults are of reading

abbrev is_of_reading : {A : Type 0} → LinkFault A → Bool
is_of_reading (link.Device n place) = true
is_of_reading (link.Record n place f) = true
is_of_reading _ = false

fault_at_reading : (A : Type 0) (n place : ℕ) (k : FaultKind) → is_of_reading (fault_at {A = A} n place k) ≡ true
fault_at_reading A n place kind.Device = refl
fault_at_reading A n place (kind.Absent why) = refl
fault_at_reading A n place (kind.Check f) = refl

never_read : {A : Type 0} (fault : LinkFault A) (n place : ℕ) (k : FaultKind) → is_of_reading fault ≡ false
    → fault ≡ fault_at n place k → ⊥
never_read {A} fault n place k other same =
    true≢false (sym (fault_at_reading A n place k) ∙ (sym (ap (is_of_reading {A = A}) same) ∙ other))

-- ---- what a link answers

-- no fault of a program's file stands in inputs
no_file_fault : (A : Type 0) (names : Names) (before : List (List Placed)) (inputs : List (List ℕ)) (f : FileFault)
    → StandsBehind {A = A} names before inputs (link.File f) → ⊥
no_file_fault A names before [] f h = h
no_file_fault A names before (bytes ∷ inputs) f (inl h) =
    never_read {A = A} (link.File f) (length before) h.0 h.1 refl h.3
no_file_fault A names before (bytes ∷ inputs) f (inr h) = no_file_fault A names (before ++ h.0 ∷ []) inputs f h.5

pub outcome_no_file : (R A : Type 0) (names : Names) (inputs : List (List ℕ)) (f : FileFault)
    → Outcome {R = R} {A = A} names inputs (Err (link.File f)) → ⊥
outcome_no_file R A names inputs f h = no_file_fault A names [] inputs f h.0

module _ {S : Type 0} (told : S → Option (List ℕ)) (failures : S → ℕ) where
  -- the input at fault has its number: that many stand before it
  pub stops_index : (olds news : List S) (n : ℕ) (e : ModuleFault) (s : StopsReading told failures olds news n e)
      → n ≡ length s.4.0
  stops_index olds news n e s = s.5 ∙ as_many told failures s.0 s.4.0 s.4.1 s.4.2

  pub links_device : (A : Type 0) (names : Names) (olds news : List S) (w v : Option (List ℕ)) (n place : ℕ)
      → Links told failures {A = A} names olds news w v (Err (link.Device n place))
      → StopsAtRecord told failures {A = A} olds news (link.Device n place) × Keeps w v
  links_device A names olds news w v n place h = elim h.0 [ inl s ↦ (s, h.1) | inr s ↦ absurd s.2 ]

  pub links_program : (A : Type 0) (names : Names) (olds news : List S) (w v : Option (List ℕ)) (f : ProgramFault A)
      → Links told failures {A = A} names olds news w v (Err (link.Program f))
      → AllRead told failures olds news (λ modules. IsModulesFault {A = A} names modules (link.Program f)) × Keeps w v
  links_program A names olds news w v f h = elim h.0 [
    | inl s ↦ absurd (never_read {A = A} (link.Program f) s.0 s.1 s.2 refl s.3)
    | inr s ↦ (s, h.1)
  ]

  pub links_no_file : (A : Type 0) (names : Names) (olds news : List S) (w v : Option (List ℕ)) (f : FileFault)
      → Links told failures {A = A} names olds news w v (Err (link.File f)) → ⊥
  links_no_file A names olds news w v f h =
      elim h.0 [ inl s ↦ never_read {A = A} (link.File f) s.0 s.1 s.2 refl s.3 | inr s ↦ s.2 ]

-- what each source tells, one after the other
abbrev pub EachTold : {S : Type 0} → (told : S → Option (List ℕ)) → List S → (inputs : List (List ℕ)) → Type 0
EachTold told [] [] = Unit {0}
EachTold told (source ∷ sources) (bytes ∷ inputs) = (told source ≡ Some bytes) × EachTold told sources inputs
EachTold told _ _ = ⊥

pub are_told : {S : Type 0} (told : S → Option (List ℕ)) (sources : List S) (inputs : List (List ℕ))
    → EachTold told sources inputs → AreTold told sources inputs
are_told told [] [] h = refl
are_told told [] (bytes ∷ inputs) h = absurd h
are_told told (source ∷ sources) [] h = absurd h
are_told told (source ∷ sources) (bytes ∷ inputs) h = ap₂ (λ x xs. x ∷ xs) h.0 (are_told told sources inputs h.1)
