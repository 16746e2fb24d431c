-- Whole modules in bytes, and the fault of reading bytes as a module.
use Rattle.std.specs.Prelude.{◌≡◌, ℕ, false, List, [], ◌∷◌, ◌++◌, length, None, Some, ◌⊎◌}
use Rattle.std.specs.List.{AllByRecursion}
use Rattle.omf_record.specs.Records.{Placed, AreRecords, is_end, AreToEnd, NoRecordAt}
use Rattle.omf_record.specs.declared.fault.NoRecord.{NoRecord}
use Rattle.omf_module.specs.declared.fault.CheckFault.{CheckFault}
use Rattle.omf_module.specs.declared.fault.FaultKind.{FaultKind}
use Rattle.omf_module.specs.declared.fault.FaultKind.TheVariants as kind
use Rattle.omf_module.specs.Faults.{fault, first_fault}

-- the bytes are a whole module that no check refuses
pub record ModuleBytes (rs : List Placed) (bytes : List ℕ) : Type 0 where
  pub records : AreRecords 0 rs bytes
  pub ended : AreToEnd rs
  pub sound : first_fault rs ≡ None

-- the bytes are the sound beginning of a module
pub record Beginning (rs : List Placed) (bytes : List ℕ) : Type 0 where
  pub records : AreRecords 0 rs bytes
  pub open' : AllByRecursion (λ (r : Placed). is_end r.says ≡ false) rs
  pub sound : first_fault rs ≡ None

-- a record begins at this place, the bytes from there on being these, and a check refuses it behind the records before
-- it
abbrev pub RefusedAt : (before : List Placed) → (place : ℕ) → List ℕ → FaultKind → Type 0
RefusedAt before place bytes found =
    (r : Placed) × (front : List ℕ) × (rest : List ℕ) × (bytes ≡ front ++ rest) × AreRecords place (r ∷ []) front
    × (check : CheckFault) × (found ≡ kind.Check check) × (fault before r.says ≡ Some check)

-- The fault of reading bytes as a module, and its place: the bytes begin with records that no check refuses and that
-- don't end a module, and behind them, at this place, a check refuses the next record, or none begins.
abbrev pub ReadingFault : List ℕ → (place : ℕ) → FaultKind → Type 0
ReadingFault bytes place found =
    (rs : List Placed) × (front : List ℕ) × (rest : List ℕ) × (bytes ≡ front ++ rest) × Beginning rs front
    × (place ≡ length front) × (RefusedAt rs place rest found
    ⊎ ((why : NoRecord) × NoRecordAt place rest why × (found ≡ kind.Absent why)))
