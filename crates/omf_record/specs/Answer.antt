-- What reading a record answers.
use Rattle.std.specs.Prelude.{◌≡◌, ℕ, List, Result, Ok, Err}
use Rattle.omf_record.specs.declared.record.Record.{Record}
use Rattle.omf_record.specs.declared.parse.RecordFault.{RecordFault}
use Rattle.omf_record.specs.declared.parse.RecordFault.TheVariants.{Memory, OtherType, Body}
use Rattle.omf_record.specs.Record as says
use Rattle.omf_record.specs.Body as body
use Rattle.omf_record.specs.View.{view}

-- the only answer for a type and a body, unless memory runs out
abbrev pub Answers : {A : Type 0} → ℕ → List ℕ → Result (Record A) RecordFault → Type 0
Answers kind bytes (Ok r) = body.BodyOf kind (view r) bytes
Answers kind bytes (Err OtherType) = body.IsRecordType kind → ⊥
Answers kind bytes (Err (Body at)) = body.IsRecordType kind × body.BodyFault kind bytes at
Answers kind bytes (Err Memory) = Unit {0}

-- an answer that is this record, unless memory runs out
abbrev pub IsRead : {A : Type 0} → says.Record → Result (Record A) RecordFault → Type 0
IsRead r (Ok answer) = view answer ≡ r
IsRead r (Err Memory) = Unit {0}
IsRead r (Err OtherType) = ⊥
IsRead r (Err (Body at)) = ⊥
