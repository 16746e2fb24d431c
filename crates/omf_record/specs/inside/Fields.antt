-- Fields of bodies, each by a word of its own.
use Rattle.std.specs.Prelude.{◌≡◌, ℕ, List, Option, is_none}
use Rattle.std.specs.List.{enumerate_from}
use Rattle.omf_record.specs.Types.{FrameMethod, TargetMethod, Datum, Reference, SegmentDefinition, Line}
use Rattle.omf_record.specs.Language.{◌⋆◌, optional, One, Byte, Word, Index, Name}
use Rattle.omf_record.specs.Numbers.{bit, frame_code, target_code, length_code}
use Rattle.omf_record.specs.Record.{External, Public}
use Rattle.omf_record.specs.Body.{bits, AbsoluteText, Acbp, DatumBits, DatumText}

-- F0, F1, F2, F4, F5
abbrev pub frame_number : FrameMethod → ℕ
frame_number method = (frame_code method).0

-- T0, T1, T2
abbrev pub target_number : TargetMethod → ℕ
target_number method = (target_code method).0

-- the bit P, that there is no displacement
abbrev pub absent : Option ℕ → ℕ
absent displacement = bit (is_none displacement)

-- the index behind a frame method: F0, F1 and F2 have one
abbrev pub FrameIndex : FrameMethod → List ℕ → Type 0
FrameIndex method = optional Index (frame_code method).1

-- the index behind a target method
abbrev pub TargetIndex : TargetMethod → List ℕ → Type 0
TargetIndex method = optional Index (target_code method).1

-- F and the frame, in the fix data byte
abbrev pub FrameBits : Datum FrameMethod → ℕ → Type 0
FrameBits frame b = DatumBits frame_code 7 6 4 frame b

-- T and the target
abbrev pub TargetBits : Datum TargetMethod → ℕ → Type 0
TargetBits target b = DatumBits target_code 3 1 0 target b

-- what stands for the frame behind the fix data byte
abbrev pub FrameText : Datum FrameMethod → List ℕ → Type 0
FrameText frame = DatumText frame_code frame

-- what stands for the target
abbrev pub TargetText : Datum TargetMethod → List ℕ → Type 0
TargetText target = DatumText target_code target

-- the fix data byte: F, frame, T, P, target
abbrev pub FixData : Reference → ℕ → Type 0
FixData r b = FrameBits r.frame b × TargetBits r.target b × (bits 2 2 b ≡ absent r.displacement)

-- the fields of SEGDEF: the byte A, C, B, P, the frame and offset of an absolute one, the length, three names
abbrev pub SegmentText : SegmentDefinition → List ℕ → Type 0
SegmentText s =
    One (Acbp s) ⋆ AbsoluteText s.alignment ⋆ Word (length_code s.length).1 ⋆ Index s.name ⋆ Index s.class ⋆ Index s.overlay

-- a name and its type index
abbrev pub ExternalText : External → List ℕ → Type 0
ExternalText e = Name e.name ⋆ Index e.type_index

-- a name, its offset and its type index
abbrev pub PublicText : Public → List ℕ → Type 0
PublicText p = Name p.name ⋆ Word p.offset ⋆ Index p.type_index

-- a line number and the offset of its code
abbrev pub LineText : Line → List ℕ → Type 0
LineText l = Word l.number ⋆ Word l.offset

-- the byte FFH, and a segment index
abbrev pub ComponentText : ℕ → List ℕ → Type 0
ComponentText segment = Byte 0xFF ⋆ Index segment

-- bytes with their places, the first of which is given
abbrev pub stored_from : ℕ → List ℕ → List (ℕ × ℕ)
stored_from place bytes = enumerate_from place bytes
