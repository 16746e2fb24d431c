-- Worked fix-ups: what each adds at two load paragraphs, and a program's bytes there.
use Rattle.std.proofs.Common.{◌≡◌, true, false, [], ◌∷◌, None, Some, map, codes, refl}
use Rattle.std.specs.List.{range_with_len}
use Rattle.omf_record.specs.declared.fixups.Location.TheVariants.{Offset, Base, Pointer}
use Rattle.omf_record.specs.declared.fixups.FrameMethod.TheVariants.{Target}
use Rattle.omf_record.specs.declared.fixups.TargetMethod.TheVariants as target
use Rattle.omf_module.specs.declared.Kind.TheVariants.{Public}
use Rattle.omf_module.specs.declared.Standing.TheVariants as standing
use Rattle.omf_module.specs.Module.{Module}
use Rattle.omf_place.specs.declared.layout.Position.TheVariants.{Relocatable, Absolute}
use Rattle.omf_place.specs.declared.names.Names.TheVariants.{Exact}
use Rattle.omf_place.specs.Layout.{Layout, layout_at}
use Rattle.omf_image.specs.declared.patch.Patch.TheVariants.{Word, Relocated}
use Rattle.omf_image.specs.declared.reference.Base.TheVariants as frame
use Rattle.omf_image.specs.declared.reference.Resolved.{Resolved}
use Rattle.omf_image.specs.Words.{add_word, put_word}
use Rattle.omf_image.specs.Value.{patches_at}
use Rattle.omf_image.specs.Records.{program_byte, relocations}

-- a target at address 35, 5 bytes on, in the frame of paragraph 2
abbrev near : Resolved
near = record { target = Relocatable 35 (Some 2); named_frame = frame.Relocatable 2; displacement = 5 }

-- its offset is 35 + 5 - 32, at paragraph 0 and at 1234H
near_offset : patches_at 0 near false Offset 0 100 ≡ Word 0 8 ∷ []
near_offset = refl

near_offset_above : patches_at 0x1234 near false Offset 0 100 ≡ Word 0 8 ∷ []
near_offset_above = refl

-- its base is a relocated word, with the paragraph
near_base : patches_at 0 near false Base 0 100 ≡ Relocated 0 2 ∷ []
near_base = refl

near_base_above : patches_at 0x1234 near false Base 0 100 ≡ Relocated 0 0x1236 ∷ []
near_base_above = refl

-- a pointer has the offset, and the base behind it
near_pointer : patches_at 0x1234 near false Pointer 0 100 ≡ Word 0 8 ∷ Relocated 2 0x1236 ∷ []
near_pointer = refl

-- relative to the end of a word at address 100 it is 40 - 102, modulo 65,536
near_relative : patches_at 0x1234 near true Offset 0 100 ≡ Word 0 65474 ∷ []
near_relative = refl

-- a target in the absolute frame B800H, at its start
abbrev fixed : Resolved
fixed = record { target = Absolute 0xB8000 0xB800; named_frame = frame.Absolute 0xB800; displacement = 0 }

-- its base is no relocated word, and the same at each paragraph
fixed_base : patches_at 0 fixed false Base 0 100 ≡ Word 0 0xB800 ∷ []
fixed_base = refl

fixed_base_above : patches_at 0x1234 fixed false Base 0 100 ≡ Word 0 0xB800 ∷ []
fixed_base_above = refl

-- a module with MOV AX, SEG CODE: the bytes B8 00 00, the word of which is the base of the segment CODE
abbrev loads_base : Module
loads_base = record {
  segments = record {
    name = codes "CODE";
    class = codes "CODE";
    length = 3;
    standing = standing.Relocatable 16 Public;
  } ∷ [];
  groups = [];
  externals = [];
  publics = [];
  data_records = record {
    place = 40;
    segment = 0;
    offset = 0;
    pairs = (0, 0xB8) ∷ (1, 0) ∷ (2, 0) ∷ [];
    fixups = record {
      place = 50;
      self_relative = false;
      location = Base;
      offset = 1;
      frame = Target;
      target = target.Segment 1;
      displacement = 0;
    } ∷ [];
  } ∷ [];
  start = None;
}

abbrev loads_base_at : Layout
loads_base_at = layout_at Exact (loads_base ∷ []) (0 ∷ []) 3

-- its bytes, at paragraph 0 and at 1234H, and the address of the word that is relocated
base_at_0 : map (program_byte 0 loads_base_at (loads_base ∷ [])) (range_with_len 0 3) ≡ 0xB8 ∷ 0 ∷ 0 ∷ []
unfolding add_word put_word
base_at_0 = refl

base_at_1234 : map (program_byte 0x1234 loads_base_at (loads_base ∷ [])) (range_with_len 0 3) ≡ 0xB8 ∷ 0x34 ∷ 0x12 ∷ []
unfolding add_word put_word
base_at_1234 = refl

base_relocated : relocations loads_base_at (loads_base ∷ []) ≡ 1 ∷ []
base_relocated = refl
