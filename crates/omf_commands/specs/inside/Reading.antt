-- One record of show and rewrite: parsed, and what it becomes written.
use Rattle.std.specs.Prelude.{◌≡◌, ℕ, List, ◌⊎◌, Ok, Err}
use Rattle.std.specs.declared.option.Option.{Option}
use Rattle.std.specs.declared.result.Result.{Result}
use Rattle.std.specs.Io.KnownBytes.{Appends, Keeps}
use Rattle.omf_frame.specs.Device.{AppendsFront, Writes}
use Rattle.omf_record.specs.Body.{BodyOf, BodyFault, IsRecordType}
use Rattle.omf_record.specs.Record as says
use Rattle.omf_record.specs.declared.record.Record.{Record}
use Rattle.omf_record.specs.View.{view}
use Rattle.omf_record.specs.Canonical.{FitsFrame}
use Rattle.omf_record.specs.Records.{Placed}
use Rattle.omf_record.specs.declared.fault.NoRecord.TheVariants as absent
use Rattle.omf_faults.specs.declared.fault.InputFault.{InputFault}
use Rattle.omf_faults.specs.declared.fault.InputFault.TheVariants as fault
use Rattle.omf_faults.specs.declared.fault.LinkFault.{LinkFault}
use Rattle.omf_faults.specs.declared.fault.LinkFault.TheVariants as link
use Rattle.omf_commands.specs.Records.{output}

-- a framed record's type is none of the fourteen, or its body is none of its type
abbrev pub IsBodyFault : (kind : ℕ) (body : List ℕ) → InputFault → Type 0
IsBodyFault kind body found =
    ((IsRecordType kind → ⊥) × (found ≡ fault.Absent absent.Type))
    ⊎ ((at : ℕ) × IsRecordType kind × BodyFault kind body at × (found ≡ fault.Absent (absent.Body at)))

-- what a frame's body says, which can be written again, or the fault of its type or body
abbrev pub Parses : {A : Type 0} → (place kind : ℕ) (body : List ℕ) → Result (Record A) (LinkFault A) → Type 0
Parses place kind body (Ok said) = BodyOf kind (view said) body × FitsFrame (view said)
Parses place kind body (Err link.Memory) = Unit {0}
Parses place kind body (Err (link.Record input at fault)) = (input ≡ 0) × (at ≡ place) × IsBodyFault kind body fault
Parses place kind body (Err link.Output) = ⊥
Parses place kind body (Err (link.Device input at)) = ⊥
Parses place kind body (Err (link.Program fault)) = ⊥
Parses place kind body (Err (link.File fault)) = ⊥

-- all of this was written, or a front of it where the sink failed, and nothing where memory ran out
abbrev pub WritesAll : {K A : Type 0} → (written : K → Option (List ℕ)) → (failures : K → ℕ) → (old new : K) → List ℕ
    → Result (Unit {0}) (LinkFault A) → Type 0
WritesAll {A = A} written failures old new out (Ok done) =
    Writes {E = LinkFault A} written failures old new out (Ok done)
WritesAll {A = A} written failures old new out (Err link.Output) =
    Writes {X = Unit {0}} {E = LinkFault A} written failures old new out (Err link.Output)
WritesAll written failures old new out (Err link.Memory) =
    Keeps (written old) (written new) × (failures new ≡ failures old)
WritesAll written failures old new out (Err (link.Record input at fault)) = ⊥
WritesAll written failures old new out (Err (link.Device input at)) = ⊥
WritesAll written failures old new out (Err (link.Program fault)) = ⊥
WritesAll written failures old new out (Err (link.File fault)) = ⊥

-- What handling a record did: its output was written, or a front of it where the sink failed, and nothing where its
-- body is at fault or memory ran out.
abbrev pub Handles : {A : Type 0}
    → (output : Placed → List ℕ) (place kind : ℕ) (body : List ℕ) (wold wnew : Option (List ℕ))
    → Result (Unit {0}) (LinkFault A) → Type 0
Handles output place kind body wold wnew (Ok done) =
    (said : says.Record) × BodyOf kind said body
    × Appends wold wnew (output (record { place = place; body = body; says = said }))
Handles output place kind body wold wnew (Err link.Output) =
    (said : says.Record) × BodyOf kind said body
    × AppendsFront wold wnew (output (record { place = place; body = body; says = said }))
Handles output place kind body wold wnew (Err link.Memory) = Keeps wold wnew
Handles output place kind body wold wnew (Err (link.Record input at fault)) =
    Keeps wold wnew × (input ≡ 0) × (at ≡ place) × IsBodyFault kind body fault
Handles output place kind body wold wnew (Err (link.Device input at)) = ⊥
Handles output place kind body wold wnew (Err (link.Program fault)) = ⊥
Handles output place kind body wold wnew (Err (link.File fault)) = ⊥
