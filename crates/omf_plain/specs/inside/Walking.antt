-- How a module is read, one frame after the other.
use Rattle.std.specs.Prelude.{◌≡◌, ℕ, if◌then◌else◌, List, [], ◌∷◌, ◌++◌, drop, None, Some, Ok, Err}
use Rattle.std.specs.declared.result.Result.{Result}
use Rattle.omf_frame.specs.Frame.{Frame, frame_at}
use Rattle.omf_frame.specs.Lending.{plain_frame}
use Rattle.omf_frame.specs.declared.frame.Frame as lent
use Rattle.omf_frame.specs.declared.reading.FramingFault.{FramingFault}
use Rattle.omf_frame.specs.declared.reading.FramingFault.TheVariants as framing
use Rattle.omf_library.specs.declared.fault.FormatFault.TheVariants as format
use Rattle.omf_library.specs.declared.fault.LibraryFault.{LibraryFault}
use Rattle.omf_library.specs.declared.fault.LibraryFault.TheVariants.{Malformed}
use Rattle.omf_module.specs.Building.{Holds}
use Rattle.omf_module.specs.Faults.{first_fault}
use Rattle.omf_module.specs.declared.builder.AddFault.{AddFault}
use Rattle.omf_module.specs.declared.builder.AddFault.TheVariants as adds
use Rattle.omf_module.specs.declared.builder.ModuleBuilder.{ModuleBuilder}
use Rattle.omf_record.specs.Record.{Record}
use Rattle.omf_record.specs.Records.{Placed}
use Rattle.omf_plain.specs.Comdats.{says_of}
use Rattle.omf_plain.specs.declared.fault.GivenFault.{GivenFault}
use Rattle.omf_plain.specs.declared.fault.PlainFault.{PlainFault}
use Rattle.omf_plain.specs.declared.fault.PlainFault.TheVariants as takes
use Rattle.omf_plain.specs.declared.fault.PlainModuleFault.{PlainModuleFault}
use Rattle.omf_plain.specs.declared.fault.PlainModuleFault.TheVariants as module_fault
use Rattle.omf_plain.specs.declared.fault.RecordObstacle.TheVariants as why
use Rattle.omf_plain.specs.declared.fault.RecordObstacle.{RecordObstacle}
use Rattle.omf_plain.specs.declared.given.Given as held
use Rattle.omf_plain.specs.declared.modules.Reading as code
use Rattle.omf_plain.specs.Given.{Given}
use Rattle.omf_plain.specs.Modules.{GivenRecord, Known, nothing_known, placed, known_behind}
use Rattle.omf_plain.specs.Plain.{Taking}
use Rattle.omf_plain.specs.Reading.{IsGiven, IsGivenFault, is_memory}
use Rattle.omf_plain.specs.View.{given_view, seen_by, taking_of}

-- a fault of a file, as one of the framing
abbrev pub framing_fault : LibraryFault → FramingFault
framing_fault (Malformed place format.ZeroLength) = framing.ZeroLength
framing_fault (Malformed place format.Closing) = framing.Closing
framing_fault _ = framing.Truncated

-- the frame at a place, or why none begins there
abbrev pub FrameAnswers : (bytes : List ℕ) → (place : ℕ) → Result lent.Frame PlainModuleFault → Type 0
FrameAnswers bytes place (Ok f) = frame_at place (drop place bytes) ≡ Ok (Some (plain_frame f))
FrameAnswers bytes place (Err (module_fault.Record at (why.Framing e))) =
    (at ≡ place) × (frame_at place (drop place bytes) ≡ Err e)
FrameAnswers bytes place (Err (module_fault.Record at why.NoEnd)) =
    (at ≡ place) × (frame_at place (drop place bytes) ≡ Ok None)
FrameAnswers bytes place _ = ⊥

-- why the frame at a place holds no record
abbrev pub body_fault : ℕ → GivenFault → PlainModuleFault
body_fault place f = if is_memory f then module_fault.Memory else module_fault.Record place (why.Body f)

-- why its record isn't taken
abbrev pub taking_fault : ℕ → PlainFault → PlainModuleFault
taking_fault place takes.Memory = module_fault.Memory
taking_fault place (takes.Of o) = module_fault.Record place (why.Obstacle o)

-- why it isn't added to those before it
abbrev pub adding_fault : ℕ → AddFault → PlainModuleFault
adding_fault place adds.Memory = module_fault.Memory
adding_fault place (adds.Check c) = module_fault.Record place (why.Check c)

-- what a frame at a place holds, or why it holds no record
abbrev pub GivenIn : {A : Type 0} → (kind : ℕ) → (body : List ℕ) → (place : ℕ)
    → Result (held.Given A) PlainModuleFault → Type 0
GivenIn kind body place (Ok given) = IsGiven kind body (given_view given)
GivenIn kind body place (Err module_fault.Memory) = Unit {0}
GivenIn kind body place (Err (module_fault.Record at (why.Body f))) = (at ≡ place) × IsGivenFault kind body f
GivenIn kind body place (Err _) = ⊥

-- records of the fourteen are added behind these, all at the place of a frame, or aren't
abbrev pub AddsAll : {A X : Type 0} → List Placed → Frame → List Record → (new : ModuleBuilder A)
    → Result X PlainModuleFault → Type 0
AddsAll before f rs new (Ok done) = Holds (before ++ placed f rs) new
AddsAll before f rs new (Err module_fault.Memory) = Unit {0}
AddsAll before f rs new (Err (module_fault.Record at (why.Check c))) =
    (at ≡ f.place) × (first_fault (before ++ placed f rs) ≡ Some (f.place, c))
AddsAll before f rs new (Err _) = ⊥

-- what is read: these given records, behind which this is known
pub record Has {A : Type 0} (t : Taking) (gs : List GivenRecord) (k : Known) (reading : code.Reading A) : Type 0 where
  pub taking : taking_of reading.pass ≡ t
  pub known : known_behind t nothing_known gs ≡ Ok k
  pub seen : seen_by reading.pass ≡ k.seen
  pub holds : Holds k.says reading.builder
  pub widths : reading.widths ≡ k.widths

-- why what a frame holds isn't taken
abbrev pub RefusedFrame : Taking → Known → Frame → RecordObstacle → Type 0
RefusedFrame t k f (why.Body e) = IsGivenFault f.kind f.body e
RefusedFrame t k f (why.Obstacle o) =
    (given : Given) × IsGiven f.kind f.body given × (says_of t k.seen given ≡ Err o)
RefusedFrame t k f (why.Check c) =
    (given : Given) × IsGiven f.kind f.body given
    × ((rs : List Record) × (says_of t k.seen given ≡ Ok rs)
    × (first_fault (k.says ++ placed f rs) ≡ Some (f.place, c)))
RefusedFrame t k f _ = ⊥

-- what a frame holds is taken behind these, or isn't
abbrev pub TakesFrame : {A X : Type 0} → Taking → List GivenRecord → Known → Frame → (new : code.Reading A)
    → Result X PlainModuleFault → Type 0
TakesFrame t gs k f new (Ok done) =
    (given : Given) × IsGiven f.kind f.body given
    × ((next : Known) × Has t (gs ++ record { frame = f; says = given } ∷ []) next new)
TakesFrame t gs k f new (Err module_fault.Memory) = Unit {0}
TakesFrame t gs k f new (Err (module_fault.Record at why)) = (at ≡ f.place) × RefusedFrame t k f why
