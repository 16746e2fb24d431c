-- The records that bytes hold, one frame after the other (TIS OMF 1.1, "Record Format"), and what stands where none
-- begins.
use Rattle.std.specs.Prelude.{◌≡◌, ℕ, Bool, true, false, List, [], ◌∷◌, map, Some, None, Ok, Err}
use Rattle.std.specs.List.{AllByRecursion}
use Rattle.omf_frame.specs.Frame.{Frame, AreFrames, frame_at}
use Rattle.omf_record.specs.Record.{Record, Modend}
use Rattle.omf_record.specs.Body.{kind_of, Body, BodyFault, IsRecordType}
use Rattle.omf_record.specs.declared.fault.NoRecord.{NoRecord}
use Rattle.omf_record.specs.declared.fault.NoRecord.TheVariants as absent

-- a record as it stands in an input: where it begins, its body, and what the body says
pub record Placed : Type 0 where
  pub place : ℕ
  pub body : List ℕ
  pub says : Record

-- the frame that holds it
abbrev pub frame_of_record : Placed → Frame
frame_of_record r = record { place = r.place; kind = kind_of r.says; body = r.body }

-- these bytes, the first of which stands at this place, are the frames of these records, joined
abbrev pub AreRecords : (place : ℕ) → List Placed → List ℕ → Type 0
AreRecords place rs bytes =
    AreFrames place (map frame_of_record rs) bytes × AllByRecursion (λ (r : Placed). Body r.says r.body) rs

-- MODEND ends a module
abbrev pub is_end : Record → Bool
is_end (Modend main start) = true
is_end _ = false

-- none of these records ends the module
abbrev pub AreBeforeEnd : List Placed → Type 0
AreBeforeEnd rs = AllByRecursion (λ (r : Placed). is_end r.says ≡ false) rs

-- the last of these records ends the module, and none before it
abbrev pub AreToEnd : List Placed → Type 0
AreToEnd [] = ⊥
AreToEnd (r ∷ []) = is_end r.says ≡ true
AreToEnd (r ∷ s ∷ rs) = (is_end r.says ≡ false) × AreToEnd (s ∷ rs)

-- why none begins at a place, the bytes from there on being these: a framing fault; the end of the input; a frame of
-- another type, or whose body is none of its type
abbrev pub NoRecordAt : (place : ℕ) → List ℕ → NoRecord → Type 0
NoRecordAt place bytes (absent.Framing e) = frame_at place bytes ≡ Err e
NoRecordAt place bytes absent.NoEnd = frame_at place bytes ≡ Ok None
NoRecordAt place bytes absent.Type = (f : Frame) × (frame_at place bytes ≡ Ok (Some f)) × (IsRecordType f.kind → ⊥)
NoRecordAt place bytes (absent.Body at) =
    (f : Frame) × (frame_at place bytes ≡ Ok (Some f)) × IsRecordType f.kind × BodyFault f.kind f.body at
