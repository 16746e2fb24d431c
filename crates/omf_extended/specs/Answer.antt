-- What reading a record answers.
use Rattle.std.specs.Prelude.{ℕ, List, map, Result, Ok, Err}
use Rattle.omf_codec.specs.Faults.{TextFault}
use Rattle.omf_extended.specs.declared.said.Extended.{Extended}
use Rattle.omf_extended.specs.declared.fault.ExtendedFault.{ExtendedFault}
use Rattle.omf_extended.specs.declared.fault.ExtendedFault.TheVariants.{Memory, OtherType, Body}
use Rattle.omf_extended.specs.declared.repeated.WideRepeated.{WideRepeated}
use Rattle.omf_extended.specs.Body.{BodyOf, IsExtendedType, RepeatedText}
use Rattle.omf_extended.specs.View.{extended_view, wide_block_view}

-- the fault that stands in a body of this type
abbrev pub Stands : ℕ → List ℕ → ExtendedFault → Type 0
Stands kind bytes Memory = Unit {0}
Stands kind bytes OtherType = IsExtendedType kind → ⊥
Stands kind bytes (Body at) = IsExtendedType kind × TextFault (BodyOf kind) bytes at

-- the only answer for a type and a body, unless memory runs out
abbrev pub ExtendedAnswers : {A : Type 0} → ℕ → List ℕ → Result (Extended A) ExtendedFault → Type 0
ExtendedAnswers kind bytes (Ok s) = BodyOf kind (extended_view s) bytes
ExtendedAnswers kind bytes (Err fault) = Stands kind bytes fault

-- the same of a LIDATA of 32 bits, with its blocks as values
abbrev pub RepeatedAnswers : {A : Type 0} → List ℕ → Result (WideRepeated A) ExtendedFault → Type 0
RepeatedAnswers bytes (Ok r) = RepeatedText r.segment r.offset (map wide_block_view r.blocks.items) bytes
RepeatedAnswers bytes (Err fault) = Stands 0xA3 bytes fault
