-- What a command that goes through an input record by record takes, writes and answers.
use Rattle.std.specs.Prelude.{◌≡◌, ℕ, List, [], ◌∷◌, ◌++◌, length, Some, Ok, Err, IfSome}
use Rattle.std.specs.declared.option.Option.{Option}
use Rattle.std.specs.declared.result.Result.{Result}
use Rattle.std.specs.List.{flat_map}
use Rattle.std.specs.Io.KnownBytes.{Consumes, Appends, Keeps}
use Rattle.omf_frame.specs.Device.{AppendsFront}
use Rattle.omf_frame.specs.declared.reading.FramingFault.TheVariants.{InputTooLong}
use Rattle.omf_record.specs.Records.{Placed, AreRecords, AreBeforeEnd, AreToEnd}
use Rattle.omf_record.specs.declared.fault.NoRecord.TheVariants.{Framing}
use Rattle.omf_frame.specs.Reading.{TakesWhole, TakesNoneOrWhole, TakesPart}
use Rattle.omf_faults.specs.declared.fault.InputFault.{InputFault}
use Rattle.omf_faults.specs.declared.fault.InputFault.TheVariants as fault
use Rattle.mz.specs.declared.fault.FileFault.{FileFault}
use Rattle.mz.specs.declared.fault.FileFault.TheVariants as file
use Rattle.omf_faults.specs.declared.fault.LinkFault.{LinkFault}
use Rattle.omf_faults.specs.declared.fault.LinkFault.TheVariants as link
use Rattle.omf_commands.specs.declared.records.Form.TheVariants.{Rewriting}
use Rattle.omf_commands.specs.Records.{output, rewritten, says_of, FaultAt, IsRewritten}

-- how many calls of the source failed, where the fault is of a program's file
abbrev pub file_failures : FileFault → ℕ
file_failures file.Device = 1
file_failures _ = 0

-- how many calls of the source failed, by the answer
abbrev pub source_failures : {T A : Type 0} → Result T (LinkFault A) → ℕ
source_failures (Ok done) = 0
source_failures (Err link.Memory) = 0
source_failures (Err link.Output) = 0
source_failures (Err (link.Device input place)) = 1
source_failures (Err (link.Record input place fault)) = 0
source_failures (Err (link.Program fault)) = 0
source_failures (Err (link.File fault)) = file_failures fault

-- how many calls of the sink failed, by the answer
abbrev pub sink_failures : {T A : Type 0} → Result T (LinkFault A) → ℕ
sink_failures (Err link.Output) = 1
sink_failures _ = 0

-- what is taken of the record at fault: the whole of it, or all there is of one that is cut off; at the limit nothing
abbrev pub TakesFaulty : Option (List ℕ) → Option (List ℕ) → InputFault → Type 0
TakesFaulty old new (fault.Absent (Framing InputTooLong)) = Keeps old new
TakesFaulty old new _ = TakesWhole old new

-- the input begins with these records, which were taken and whose output was written
pub record WentThrough (output : Placed → List ℕ) (records : List Placed)
    (old mid wold wnew : Option (List ℕ)) : Type 0 where
  pub bytes : List ℕ
  pub are_records : AreRecords 0 records bytes
  pub taken : Consumes old mid bytes
  pub written : Appends wold wnew (flat_map output records)

-- Going through the records of an input, up to the first that ends a module: what is told of the source and of the
-- sink before and after, and the answer. What was written before a fault of reading is the output of the records
-- before it, whole; where the sink failed, a front of the output.
abbrev pub GoesThrough : (output : Placed → List ℕ) (old new wold wnew : Option (List ℕ)) {T A : Type 0}
    → Result T (LinkFault A) → Type 0
GoesThrough output old new wold wnew (Ok done) =
    (records : List Placed) × AreToEnd records × WentThrough output records old new wold wnew
GoesThrough output old new wold wnew (Err (link.Record input place fault)) =
    (records : List Placed) × (mid : Option (List ℕ)) × AreBeforeEnd records
    × (through : WentThrough output records old mid wold wnew)
    × (input ≡ 0) × (place ≡ length through.bytes) × IfSome mid (λ bytes. FaultAt place bytes fault)
    × TakesFaulty mid new fault
GoesThrough output old new wold wnew (Err (link.Device input place)) =
    (records : List Placed) × (mid : Option (List ℕ)) × AreBeforeEnd records
    × (through : WentThrough output records old mid wold wnew)
    × (input ≡ 0) × (place ≡ length through.bytes) × TakesPart mid new
GoesThrough output old new wold wnew (Err link.Output) =
    (records : List Placed) × (last : Placed) × AreBeforeEnd records
    × (bytes : List ℕ) × AreRecords 0 (records ++ last ∷ []) bytes × Consumes old new bytes
    × AppendsFront wold wnew (flat_map output (records ++ last ∷ []))
GoesThrough output old new wold wnew (Err link.Memory) =
    (records : List Placed) × (mid : Option (List ℕ)) × AreBeforeEnd records
    × WentThrough output records old mid wold wnew × TakesNoneOrWhole mid new
GoesThrough output old new wold wnew (Err (link.Program fault)) = ⊥
GoesThrough output old new wold wnew (Err (link.File fault)) = ⊥

-- All this was written and this is left, unless a device or memory failed.
abbrev pub WritesWhole : (out rest : List ℕ) (new wold wnew : Option (List ℕ)) {T A : Type 0} → Result T (LinkFault A)
    → Type 0
WritesWhole out rest new wold wnew (Ok done) = (new ≡ Some rest) × Appends wold wnew out
WritesWhole out rest new wold wnew (Err link.Memory) = Unit {0}
WritesWhole out rest new wold wnew (Err link.Output) = Unit {0}
WritesWhole out rest new wold wnew (Err (link.Device input place)) = Unit {0}
WritesWhole out rest new wold wnew (Err (link.Record input place fault)) = ⊥
WritesWhole out rest new wold wnew (Err (link.Program fault)) = ⊥
WritesWhole out rest new wold wnew (Err (link.File fault)) = ⊥

-- The input begins with these records, which were taken, and what was appended says the same and is rewritten as it
-- stands.
abbrev pub AppendsRewritten : (old new wold wnew : Option (List ℕ)) → Type 0
AppendsRewritten old new wold wnew =
    (records : List Placed) × AreToEnd records × WentThrough (output Rewriting) records old new wold wnew
    × IsRewritten (says_of records) (rewritten records)
