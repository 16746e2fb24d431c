-- What is written of the records of an input, and the fault that stands where none begins.
use Rattle.std.specs.Prelude.{◌≡◌, ℕ, List, map}
use Rattle.std.specs.List.{flat_map}
use Rattle.omf_frame.specs.Frame.{frame}
use Rattle.omf_record.specs.Record.{Record}
use Rattle.omf_record.specs.Body.{kind_of}
use Rattle.omf_record.specs.Canonical.{canonical}
use Rattle.omf_record.specs.Records.{Placed, AreRecords, AreToEnd, NoRecordAt}
use Rattle.omf_record.specs.declared.fault.NoRecord.{NoRecord}
use Rattle.omf_faults.specs.declared.fault.InputFault.{InputFault}
use Rattle.omf_faults.specs.declared.fault.InputFault.TheVariants.{Absent}
use Rattle.omf_commands.specs.declared.records.Form.{Form}
use Rattle.omf_commands.specs.declared.records.Form.TheVariants.{Listing, Rewriting}
use Rattle.omf_text.specs.Details.{listing}

-- what is written of a record: its listing, or its canonical body in a frame whose sum is 0
abbrev pub output : Form → Placed → List ℕ
output Listing placed = listing placed
output Rewriting placed = frame (kind_of placed.says) (canonical placed.says)

-- the records of a module, rewritten
abbrev pub rewritten : List Placed → List ℕ
rewritten records = flat_map (output Rewriting) records

-- the fault where no record begins and one had to, the bytes from there on being these
abbrev pub FaultAt : ℕ → List ℕ → InputFault → Type 0
FaultAt place bytes fault = (why : NoRecord) × NoRecordAt place bytes why × (fault ≡ Absent why)

-- what records say, without the places where they stand and how their bodies spell it
abbrev pub says_of : List Placed → List Record
says_of records = map (λ (placed : Placed). placed.says) records

-- the records of one module that say this, and are rewritten as they stand
pub record IsRewritten (said : List Record) (bytes : List ℕ) : Type 0 where
  pub records : List Placed
  pub ended : AreToEnd records
  pub are_records : AreRecords 0 records bytes
  pub says : says_of records ≡ said
  pub same : rewritten records ≡ bytes
