-- What counts from the group FLAT, which stands for all memory from 0 on in protected mode (TIS OMF 1.1, "Group
-- Definition Record", the pseudogroup FLAT). To define it says nothing: what names it does.
use Rattle.std.specs.Prelude.{ℕ, zero, suc, Bool, false, ◌||◌, List, codes, slice_index_or}
use Rattle.std.specs.Option.{option_map_or}
use Rattle.std.specs.Str.{bytes_eq}
use Rattle.omf_library.specs.Entries.{listed_name}
use Rattle.omf_record.specs.declared.externals.PublicBase.{PublicBase}
use Rattle.omf_record.specs.declared.externals.PublicBase.TheVariants.{AtFrame, InSegment}
use Rattle.omf_record.specs.declared.fixups.Datum.{Datum}
use Rattle.omf_record.specs.declared.fixups.Datum.TheVariants as datum
use Rattle.omf_record.specs.declared.fixups.FrameMethod.{FrameMethod}
use Rattle.omf_record.specs.declared.fixups.FrameMethod.TheVariants as by
use Rattle.omf_record.specs.declared.fixups.TargetMethod.{TargetMethod}
use Rattle.omf_record.specs.declared.fixups.TargetMethod.TheVariants as to
use Rattle.omf_wide.specs.declared.fixups.WideReference.{WideReference}

-- a group is FLAT by its name, which has this index among the names before it
abbrev pub is_flat_group : (names : List (List ℕ)) → (name : ℕ) → Bool
is_flat_group names name = option_map_or (λ n. bytes_eq n (codes "FLAT")) (listed_name names name) false

-- the group with this index, from 1 on, where of each group it is known whether it is FLAT
abbrev pub is_flat : List Bool → ℕ → Bool
is_flat groups zero = false
is_flat groups (suc before) = slice_index_or groups before false

-- a target counts from it
abbrev pub target_is_flat : List Bool → TargetMethod → Bool
target_is_flat groups (to.Group index) = is_flat groups index
target_is_flat groups _ = false

-- a frame does
abbrev pub frame_is_flat : List Bool → FrameMethod → Bool
frame_is_flat groups (by.By method) = target_is_flat groups method
frame_is_flat groups _ = false

-- what is named and not by a thread does
abbrev pub datum_is_flat : {M : Type 0} → (M → Bool) → Datum M → Bool
datum_is_flat is_flat' (datum.By method) = is_flat' method
datum_is_flat is_flat' (datum.Thread number) = false

-- a fix-up or a start does, by its frame or its target
abbrev pub reference_is_flat : List Bool → WideReference → Bool
reference_is_flat groups r =
    datum_is_flat (frame_is_flat groups) r.frame || datum_is_flat (target_is_flat groups) r.target

-- public names do
abbrev pub base_is_flat : List Bool → PublicBase → Bool
base_is_flat groups (AtFrame group frame) = is_flat groups group
base_is_flat groups (InSegment group segment) = is_flat groups group
