-- Faults of the layers below as faults of a module.
use Rattle.std.specs.Prelude.{ℕ}
use Rattle.omf_frame.specs.declared.reading.FrameFault.{FrameFault}
use Rattle.omf_frame.specs.declared.reading.FrameFault.TheVariants as frame
use Rattle.omf_record.specs.declared.fault.NoRecord.TheVariants as absent
use Rattle.omf_record.specs.declared.parse.RecordFault.{RecordFault}
use Rattle.omf_record.specs.declared.parse.RecordFault.TheVariants as parse
use Rattle.omf_module.specs.declared.builder.AddFault.{AddFault}
use Rattle.omf_module.specs.declared.builder.AddFault.TheVariants as adds
use Rattle.omf_module.specs.declared.fault.FaultKind.TheVariants as kind
use Rattle.omf_module.specs.declared.fault.ModuleFault.{ModuleFault}
use Rattle.omf_module.specs.declared.fault.ModuleFault.TheVariants as fault

-- why no frame was read
abbrev pub read_fault : FrameFault → ModuleFault
read_fault (frame.Device place) = fault.Record place kind.Device
read_fault (frame.Framing place why) = fault.Record place (kind.Absent (absent.Framing why))
read_fault frame.Memory = fault.Memory
read_fault frame.Failed = fault.Memory

-- why the frame at this place is no record
abbrev pub parse_fault : (place : ℕ) → RecordFault → ModuleFault
parse_fault place parse.Memory = fault.Memory
parse_fault place parse.OtherType = fault.Record place (kind.Absent absent.Type)
parse_fault place (parse.Body at) = fault.Record place (kind.Absent (absent.Body at))

-- why the record at this place wasn't taken
abbrev pub add_fault : (place : ℕ) → AddFault → ModuleFault
add_fault place adds.Memory = fault.Memory
add_fault place (adds.Check check) = fault.Record place (kind.Check check)
