-- Worked bodies: bytes, and the record whose body they are.
use Rattle.std.proofs.Common.{[], ◌∷◌, false, None, inl, refl, lit≤, lit<}
use Rattle.omf_record.specs.declared.fixups.FrameMethod.TheVariants as frame
use Rattle.omf_record.specs.declared.fixups.TargetMethod.TheVariants as target
use Rattle.omf_record.specs.declared.fixups.Datum.TheVariants as datum
use Rattle.omf_record.specs.declared.fixups.Location.TheVariants as location
use Rattle.omf_record.specs.declared.fixups.Subrecord.TheVariants as sub
use Rattle.omf_record.specs.declared.segments.Alignment.TheVariants as align
use Rattle.omf_record.specs.declared.segments.Combination.TheVariants as combine
use Rattle.omf_record.specs.declared.segments.SegmentLength.TheVariants as len
use Rattle.omf_record.specs.Record.{Lnames, Segdef, Fixupp}
use Rattle.omf_record.specs.Body.{Body}

-- LNAMES with the empty name and the name CODE
names_body : Body (Lnames ([] ∷ (0x43 ∷ 0x4F ∷ 0x44 ∷ 0x45 ∷ []) ∷ [])) (0x00 ∷ 0x04 ∷ 0x43 ∷ 0x4F ∷ 0x44 ∷ 0x45 ∷ [])
unfolding Body
names_body = record {
  front = 0x00 ∷ [];
  rest = 0x04 ∷ 0x43 ∷ 0x4F ∷ 0x44 ∷ 0x45 ∷ [];
  parts = refl;
  first = (lit≤ tt, tt, refl);
  second = record {
    front = 0x04 ∷ 0x43 ∷ 0x4F ∷ 0x44 ∷ 0x45 ∷ [];
    rest = [];
    parts = refl;
    first = (lit≤ tt, (lit< tt, (lit< tt, (lit< tt, (lit< tt, tt)))), refl);
    second = refl;
  };
}

-- SEGDEF of a public segment of 17 bytes at any byte, with the names 7, 2 and 1: A is 1 and C is 2 in the byte 28H
segment_body : Body (Segdef (record {
  alignment = align.Byte;
  combination = combine.Public2;
  length = len.Word 17;
  name = 7;
  class = 2;
  overlay = 1;
})) (0x28 ∷ 0x11 ∷ 0x00 ∷ 0x07 ∷ 0x02 ∷ 0x01 ∷ [])
unfolding Body
segment_body = record {
  front = 0x28 ∷ [];
  rest = 0x11 ∷ 0x00 ∷ 0x07 ∷ 0x02 ∷ 0x01 ∷ [];
  parts = refl;
  first = (0x28, lit< tt, (refl, refl, refl, refl), refl);
  second = record {
    front = [];
    rest = 0x11 ∷ 0x00 ∷ 0x07 ∷ 0x02 ∷ 0x01 ∷ [];
    parts = refl;
    first = refl;
    second = record {
      front = 0x11 ∷ 0x00 ∷ [];
      rest = 0x07 ∷ 0x02 ∷ 0x01 ∷ [];
      parts = refl;
      first = (lit< tt, refl);
      second = record {
        front = 0x07 ∷ [];
        rest = 0x02 ∷ 0x01 ∷ [];
        parts = refl;
        first = inl (lit≤ tt, refl);
        second = record {
          front = 0x02 ∷ [];
          rest = 0x01 ∷ [];
          parts = refl;
          first = inl (lit≤ tt, refl);
          second = inl (lit≤ tt, refl);
        };
      };
    };
  };
}

-- FIXUPP with an offset at place 1 of the data before, to segment 2 in the target's own frame: C4H has M and location
-- 1, 54H has frame 5, P and target 0
fixup_body : Body (Fixupp (sub.Fixup (record {
  self_relative = false;
  location = location.Offset;
  offset = 1;
  reference = record { frame = datum.By frame.Target; target = datum.By (target.Segment 2); displacement = None };
}) ∷ [])) (0xC4 ∷ 0x01 ∷ 0x54 ∷ 0x02 ∷ [])
unfolding Body
fixup_body = record {
  front = 0xC4 ∷ 0x01 ∷ 0x54 ∷ 0x02 ∷ [];
  rest = [];
  parts = refl;
  first = record {
    front = 0xC4 ∷ [];
    rest = 0x01 ∷ 0x54 ∷ 0x02 ∷ [];
    parts = refl;
    first = (0xC4, lit< tt, (refl, refl, refl, refl), refl);
    second = record {
      front = 0x01 ∷ [];
      rest = 0x54 ∷ 0x02 ∷ [];
      parts = refl;
      first = (lit< tt, refl);
      second = record {
        front = 0x54 ∷ [];
        rest = 0x02 ∷ [];
        parts = refl;
        first = (0x54, lit< tt, ((refl, refl), (refl, refl), refl), refl);
        second = record {
          front = [];
          rest = 0x02 ∷ [];
          parts = refl;
          first = refl;
          second = record {
            front = 0x02 ∷ [];
            rest = [];
            parts = refl;
            first = inl (lit≤ tt, refl);
            second = refl;
          };
        };
      };
    };
  };
  second = refl;
}
