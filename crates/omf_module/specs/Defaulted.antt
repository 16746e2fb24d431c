-- Externals that mean others of their module: a weak or lazy one that nothing defines means its default, which is told
-- by its index (TIS OMF 1.1, the comment classes WKEXT and LZEXT; FIXUPP and MODEND, the methods T2 and F2).
use Rattle.std.specs.Prelude.{ℕ, List, map, unwrap_or}
use Rattle.std.specs.Option.{option_map}
use Rattle.omf_record.specs.declared.fixups.FrameMethod.{FrameMethod}
use Rattle.omf_record.specs.declared.fixups.FrameMethod.TheVariants as by
use Rattle.omf_record.specs.declared.fixups.TargetMethod.{TargetMethod}
use Rattle.omf_record.specs.declared.fixups.TargetMethod.TheVariants as to
use Rattle.omf_module.specs.declared.ResolvedFixup.{ResolvedFixup}
use Rattle.omf_module.specs.declared.Start.{Start}
use Rattle.omf_module.specs.Before.{entry}
use Rattle.omf_module.specs.Module.{DataRecord, Module}

-- by the index of the external that each means, from that with index 1 on
module _ (meanings : List ℕ) where
  -- the index of the one that an external means; one behind the last of these means itself
  abbrev pub meaning : (index : ℕ) → ℕ
  meaning index = unwrap_or (entry meanings index) index

  -- a target that is an external (T2) is the one that it means; so is what a frame is found by (F2)
  abbrev pub target_in : TargetMethod → TargetMethod
  target_in (to.Segment index) = to.Segment index
  target_in (to.Group index) = to.Group index
  target_in (to.External index) = to.External (meaning index)

  -- a frame
  abbrev pub frame_in : FrameMethod → FrameMethod
  frame_in (by.By method) = by.By (target_in method)
  frame_in by.Location = by.Location
  frame_in by.Target = by.Target

  -- a fix-up
  abbrev pub fixup_in : ResolvedFixup → ResolvedFixup
  fixup_in fixup = record fixup { frame = frame_in fixup.frame; target = target_in fixup.target }

  -- data with its fix-ups
  abbrev pub data_in : DataRecord → DataRecord
  data_in data' = record data' { fixups = map fixup_in data'.fixups }

  -- a start
  abbrev pub start_in : Start → Start
  start_in start = record start { frame = frame_in start.frame; target = target_in start.target }

  -- the module with each reference to an external as one to that which it means
  abbrev pub defaulted : Module → Module
  defaulted m =
      record m { data_records = map data_in m.data_records; start = option_map start_in m.start }
