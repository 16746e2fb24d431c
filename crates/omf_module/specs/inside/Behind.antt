-- Why reading goes no further.
use Rattle.std.specs.Prelude.{◌≡◌, ℕ, List, ◌⊎◌}
use Rattle.std.specs.declared.option.Option.{Option}
use Rattle.std.specs.Io.KnownBytes.{Consumes}
use Rattle.omf_record.specs.Records.{Placed, NoRecordAt}
use Rattle.omf_record.specs.declared.fault.NoRecord.{NoRecord}
use Rattle.omf_module.specs.declared.fault.FaultKind.{FaultKind}
use Rattle.omf_module.specs.declared.fault.FaultKind.TheVariants as kind
use Rattle.omf_module.specs.Bytes.{Beginning, RefusedAt}

-- no record begins at a place
abbrev pub StopsAt : (place : ℕ) → List ℕ → FaultKind → Type 0
StopsAt place bytes found = (why : NoRecord) × NoRecordAt place bytes why × (found ≡ kind.Absent why)

-- the fault of what stands behind these records
abbrev pub FaultBehind : (before : List Placed) → (place : ℕ) → List ℕ → FaultKind → Type 0
FaultBehind before place bytes found = RefusedAt before place bytes found ⊎ StopsAt place bytes found

-- records that are the sound beginning of a module were taken
pub record Took (rs : List Placed) (front : List ℕ) (old new : Option (List ℕ)) : Type 0 where
  pub beginning : Beginning rs front
  pub taken : Consumes old new front
