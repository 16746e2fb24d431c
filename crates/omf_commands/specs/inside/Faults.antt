-- The faults that only private functions hand on, as faults of the command.
use Rattle.std.specs.Prelude.{ℕ}
use Rattle.omf_frame.specs.declared.reading.FrameFault.{FrameFault}
use Rattle.omf_frame.specs.declared.reading.FrameFault.TheVariants as frame
use Rattle.omf_record.specs.declared.fault.NoRecord.TheVariants as absent
use Rattle.omf_record.specs.declared.parse.RecordFault.{RecordFault}
use Rattle.omf_record.specs.declared.parse.RecordFault.TheVariants as body
use Rattle.omf_place.specs.declared.faults.PlaceFault.{PlaceFault}
use Rattle.omf_place.specs.declared.faults.PlaceFault.TheVariants as place
use Rattle.omf_image.specs.declared.faults.FixFault.{FixFault}
use Rattle.omf_image.specs.declared.faults.FixFault.TheVariants as build
use Rattle.mz.specs.declared.fault.MzFault.{MzFault}
use Rattle.mz.specs.declared.fault.MzFault.TheVariants as mz
use Rattle.omf_faults.specs.declared.fault.InputFault.TheVariants as fault
use Rattle.omf_faults.specs.declared.fault.ProgramFault.TheVariants as program
use Rattle.omf_faults.specs.declared.fault.LinkFault.{LinkFault}
use Rattle.omf_faults.specs.declared.fault.LinkFault.TheVariants as link

-- a fault of reading a record of the only input
abbrev pub frame_fault : {A : Type 0} → FrameFault → LinkFault A
frame_fault (frame.Device place) = link.Device 0 place
frame_fault (frame.Framing place found) = link.Record 0 place (fault.Absent (absent.Framing found))
frame_fault frame.Memory = link.Memory
frame_fault frame.Failed = link.Memory

-- a fault of the body at this place in the only input
abbrev pub record_fault : {A : Type 0} → (place : ℕ) → RecordFault → LinkFault A
record_fault place body.Memory = link.Memory
record_fault place body.OtherType = link.Record 0 place (fault.Absent absent.Type)
record_fault place (body.Body at) = link.Record 0 place (fault.Absent (absent.Body at))

-- a fault of placing the modules
abbrev pub place_fault : {A : Type 0} → PlaceFault A → LinkFault A
place_fault place.Memory = link.Memory
place_fault (place.SegmentTooLong name) = link.Program (program.SegmentTooLong name)
place_fault place.ProgramTooLarge = link.Program program.ProgramTooLarge
place_fault (place.GroupTooLong name) = link.Program (program.GroupTooLong name)
place_fault (place.DuplicatePublic name) = link.Program (program.DuplicatePublic name)

-- a fault of building the program
abbrev pub fix_fault : {A : Type 0} → FixFault → LinkFault A
fix_fault (build.At kind input place) = link.Record input place (fault.Fix kind)
fix_fault build.TooManyRelocations = link.Program program.TooManyRelocations
fix_fault build.Memory = link.Memory

-- a fault of reading or loading a program's file, which is the only input
abbrev pub mz_fault : {A : Type 0} → MzFault → LinkFault A
mz_fault (mz.File fault') = link.File fault'
mz_fault mz.Memory = link.Memory
