-- What reading a record answers.
use Rattle.std.specs.Prelude.{ℕ, List, Result, Ok, Err}
use Rattle.omf_codec.specs.Faults.{TextFault}
use Rattle.omf_wide.specs.declared.said.Said.{Said}
use Rattle.omf_wide.specs.declared.data.WideData.{WideData}
use Rattle.omf_wide.specs.declared.fault.WideFault.{WideFault}
use Rattle.omf_wide.specs.declared.fault.WideFault.TheVariants.{Memory, OtherType, Body, Above16Bits}
use Rattle.omf_wide.specs.Body.{BodyOf, NarrowBodyOf, IsWideType, DataText}
use Rattle.omf_wide.specs.View.{said_view}

-- The fault that stands in a body of this type. A body whose numbers have to have 16 bits is wrong where no such body
-- goes on: by a number above them, if one with any numbers does go on there, and else by itself.
abbrev pub Stands : ℕ → List ℕ → WideFault → Type 0
Stands kind bytes Memory = Unit {0}
Stands kind bytes OtherType = IsWideType kind → ⊥
Stands kind bytes (Body at) = IsWideType kind × TextFault (BodyOf kind) bytes at
Stands kind bytes (Above16Bits at) =
    TextFault (NarrowBodyOf kind) bytes at × (TextFault (BodyOf kind) bytes at → ⊥)

-- the only answer for a type and a body, unless memory runs out
abbrev pub WideAnswers : {A : Type 0} → ℕ → List ℕ → Result (Said A) WideFault → Type 0
WideAnswers kind bytes (Ok s) = NarrowBodyOf kind (said_view s) bytes
WideAnswers kind bytes (Err fault) = Stands kind bytes fault

-- the same of a LEDATA of 32 bits, whatever its offset
abbrev pub WideDataAnswers : List ℕ → Result WideData WideFault → Type 0
WideDataAnswers bytes (Ok d) = DataText d.segment d.offset d.bytes.now bytes
WideDataAnswers bytes (Err Memory) = Unit {0}
WideDataAnswers bytes (Err (Body at)) =
    TextFault (λ (x : ℕ × (ℕ × List ℕ)). DataText x.0 x.1.0 x.1.1) bytes at
WideDataAnswers bytes (Err _) = ⊥
