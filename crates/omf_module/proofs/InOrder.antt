-- The smallest of the faults of a fix-up or a start is the first in the order of their numbers.
use Rattle.std.proofs.Common.{◌≡◌, ℕ, ◌+◌, Bool, true, false, cond, List, [], ◌∷◌, ◌++◌, Option, None, Some, refl}
use Rattle.std.proofs.Common.{ap, ◌∙◌}
use Rattle.std.specs.Prelude.{is_none, not, nat_le, ◌||◌, ◌&&◌}
use Rattle.std.specs.Bool.{then_some}
use Rattle.std.specs.List.{list_any}
use Rattle.std.specs.Option.{option_to_list}
use Rattle.omf_record.specs.Numbers.{location_width}
use Rattle.omf_record.specs.declared.fixups.FrameMethod.{FrameMethod}
use Rattle.omf_record.specs.declared.fixups.FrameMethod.TheVariants as by
use Rattle.omf_record.specs.declared.fixups.TargetMethod.{TargetMethod}
use Rattle.omf_record.specs.declared.fixups.TargetMethod.TheVariants as to
use Rattle.omf_record.specs.declared.fixups.Fixup.{Fixup}
use Rattle.omf_module.specs.declared.fault.CheckFault.{CheckFault}
use Rattle.omf_module.specs.declared.fault.CheckFault.TheVariants.{SegmentIndex, GroupIndex, ExternalIndex}
use Rattle.omf_module.specs.declared.fault.CheckFault.TheVariants.{ThreadNotSet, FixupBeforeData, FixupPlace}
use Rattle.omf_module.specs.declared.fault.CheckFault.TheVariants.{SelfRelativeBase, FrameOfLocation}
use Rattle.omf_module.specs.Before.{first}
use Rattle.omf_module.specs.Module.{Module}
use Rattle.omf_module.specs.Faults.{misses, reference_faults, place_fault, holds_base}
use Rattle.omf_module.specs.inside.Checking.{◌⊓◌, frame_fault, target_fault, relative_fault}
use Rattle.omf_module.specs.inside.Checking.{fixup_fault, start_fault}

-- ---- one fault more, among those of an index and of a thread that isn't set

-- the faults by their tests, and others behind them
abbrev listed : (segment group external thread : Bool) → List (Option CheckFault) → List (Option CheckFault)
listed s g e n rest =
    then_some s SegmentIndex ∷ then_some g GroupIndex ∷ then_some e ExternalIndex ∷ then_some n ThreadNotSet ∷ rest

-- none, or a fault whose number is above theirs
abbrev IsLate : Option CheckFault → Type 0
IsLate q =
    (Some SegmentIndex ⊓ q ≡ Some SegmentIndex) × (Some GroupIndex ⊓ q ≡ Some GroupIndex)
    × (Some ExternalIndex ⊓ q ≡ Some ExternalIndex) × (Some ThreadNotSet ⊓ q ≡ Some ThreadNotSet)

with_segment : (b s g e n : Bool) (rest : List (Option CheckFault)) → IsLate (first rest)
    → then_some b SegmentIndex ⊓ first (listed s g e n rest) ≡ first (listed (b || s) g e n rest)
with_segment false s g e n rest late = refl
with_segment true true g e n rest late = refl
with_segment true false true e n rest late = refl
with_segment true false false true n rest late = refl
with_segment true false false false true rest late = refl
with_segment true false false false false rest late = late.0

with_group : (b s g e n : Bool) (rest : List (Option CheckFault)) → IsLate (first rest)
    → then_some b GroupIndex ⊓ first (listed s g e n rest) ≡ first (listed s (b || g) e n rest)
with_group false s g e n rest late = refl
with_group true true g e n rest late = refl
with_group true false true e n rest late = refl
with_group true false false true n rest late = refl
with_group true false false false true rest late = refl
with_group true false false false false rest late = late.1

with_external : (b s g e n : Bool) (rest : List (Option CheckFault)) → IsLate (first rest)
    → then_some b ExternalIndex ⊓ first (listed s g e n rest) ≡ first (listed s g (b || e) n rest)
with_external false s g e n rest late = refl
with_external true true g e n rest late = refl
with_external true false true e n rest late = refl
with_external true false false true n rest late = refl
with_external true false false false true rest late = refl
with_external true false false false false rest late = late.2

with_thread : (s g e n : Bool) (rest : List (Option CheckFault)) → IsLate (first rest)
    → Some ThreadNotSet ⊓ first (listed s g e n rest) ≡ first (listed s g e true rest)
with_thread true g e n rest late = refl
with_thread false true e n rest late = refl
with_thread false false true n rest late = refl
with_thread false false false true rest late = refl
with_thread false false false false rest late = late.3

-- ---- a target, and then the frame

-- whether the segment, the group or the external that a target names is missing
abbrev no_segment : Module → Option TargetMethod → Bool
no_segment said t = list_any (elim [ to.Segment index ↦ misses said.segments index | _ ↦ false ]) (option_to_list t)

abbrev no_group : Module → Option TargetMethod → Bool
no_group said t = list_any (elim [ to.Group index ↦ misses said.groups index | _ ↦ false ]) (option_to_list t)

abbrev no_external : Module → Option TargetMethod → Bool
no_external said t = list_any (elim [ to.External index ↦ misses said.externals index | _ ↦ false ]) (option_to_list t)

abbrev of_target : Module → Option TargetMethod → List (Option CheckFault) → List (Option CheckFault)
of_target said t rest = listed (no_segment said t) (no_group said t) (no_external said t) (is_none t) rest

target_in_order : (said : Module) (t : Option TargetMethod) (rest : List (Option CheckFault)) → IsLate (first rest)
    → target_fault said t ⊓ first rest ≡ first (of_target said t rest)
target_in_order said None rest late = with_thread false false false false rest late
target_in_order said (Some (to.Segment index)) rest late =
    with_segment (misses said.segments index) false false false false rest late
target_in_order said (Some (to.Group index)) rest late =
    with_group (misses said.groups index) false false false false rest late
target_in_order said (Some (to.External index)) rest late =
    with_external (misses said.externals index) false false false false rest late

frame_in_order : (said : Module) (f : Option FrameMethod) (t : Option TargetMethod)
    (rest : List (Option CheckFault)) → IsLate (first rest)
    → frame_fault said f ⊓ first (of_target said t rest) ≡ first (reference_faults said f t ++ rest)
frame_in_order said None t rest late =
    with_thread (no_segment said t) (no_group said t) (no_external said t) (is_none t) rest late
frame_in_order said (Some (by.By (to.Segment index))) t rest late =
    with_segment (misses said.segments index) (no_segment said t) (no_group said t) (no_external said t) (is_none t)
    rest late
frame_in_order said (Some (by.By (to.Group index))) t rest late =
    with_group (misses said.groups index) (no_segment said t) (no_group said t) (no_external said t) (is_none t) rest
    late
frame_in_order said (Some (by.By (to.External index))) t rest late =
    with_external (misses said.externals index) (no_segment said t) (no_group said t) (no_external said t) (is_none t)
    rest late
frame_in_order said (Some by.Location) t rest late = refl
frame_in_order said (Some by.Target) t rest late = refl

in_order : (said : Module) (f : Option FrameMethod) (t : Option TargetMethod) (rest : List (Option CheckFault))
    → IsLate (first rest)
    → frame_fault said f ⊓ target_fault said t ⊓ first rest ≡ first (reference_faults said f t ++ rest)
in_order said f t rest late =
    ap (λ q. frame_fault said f ⊓ q) (target_in_order said t rest late) ∙ frame_in_order said f t rest late

-- ---- what stands behind them

then_relative : (p : Option CheckFault) → p ⊓ Some SelfRelativeBase ≡ first (p ∷ Some SelfRelativeBase ∷ [])
    → (relative holds : Bool)
    → p ⊓ cond relative (then_some holds SelfRelativeBase) None
    ≡ first (p ∷ then_some (relative && holds) SelfRelativeBase ∷ [])
then_relative p e true true = e
then_relative None e true false = refl
then_relative (Some f) e true false = refl
then_relative None e false holds = refl
then_relative (Some f) e false holds = refl

then_late : (p : Option CheckFault) (b : Bool) → IsLate p → IsLate (first (p ∷ then_some b SelfRelativeBase ∷ []))
then_late None true late = (refl, refl, refl, refl)
then_late None false late = late
then_late (Some f) b late = late

placed : (said : Module) (f : Option FrameMethod) (t : Option TargetMethod) (x : Fixup) (p : Option CheckFault)
    → p ⊓ Some SelfRelativeBase ≡ first (p ∷ Some SelfRelativeBase ∷ []) → IsLate p
    → frame_fault said f ⊓ target_fault said t ⊓ p ⊓ relative_fault x
    ≡ first (reference_faults said f t
    ++ p ∷ then_some (x.self_relative && holds_base x.location) SelfRelativeBase ∷ [])
placed said f t x p e late =
    ap (λ q. frame_fault said f ⊓ target_fault said t ⊓ q) (then_relative p e x.self_relative (holds_base x.location))
    ∙ in_order said f t (p ∷ then_some (x.self_relative && holds_base x.location) SelfRelativeBase ∷ [])
    (then_late p (x.self_relative && holds_base x.location) late)

tested : (said : Module) (f : Option FrameMethod) (t : Option TargetMethod) (x : Fixup) (b : Bool)
    → frame_fault said f ⊓ target_fault said t ⊓ then_some b FixupPlace ⊓ relative_fault x
    ≡ first (reference_faults said f t
    ++ then_some b FixupPlace ∷ then_some (x.self_relative && holds_base x.location) SelfRelativeBase ∷ [])
tested said f t x true = placed said f t x (Some FixupPlace) refl (refl, refl, refl, refl)
tested said f t x false = placed said f t x None refl (refl, refl, refl, refl)

pub fixup_in_order : (said : Module) (f : Option FrameMethod) (t : Option TargetMethod)
    (contents : Option (List (ℕ × ℕ))) (x : Fixup)
    → fixup_fault said f t contents x
    ≡ first (reference_faults said f t ++ place_fault contents x
    ∷ then_some (x.self_relative && holds_base x.location) SelfRelativeBase ∷ [])
fixup_in_order said f t None x = placed said f t x (Some FixupBeforeData) refl (refl, refl, refl, refl)
fixup_in_order said f t (Some contents) x =
    let end = x.offset + location_width x.location in
    tested said f t x (not (list_any (λ c. nat_le c.0 x.offset && nat_le end (c.0 + c.1)) contents))

pub start_in_order : (said : Module) (f : Option FrameMethod) (t : Option TargetMethod)
    → start_fault said f t
    ≡ first (reference_faults said f t ++ (elim f [ Some by.Location ↦ Some FrameOfLocation | _ ↦ None ]) ∷ [])
start_in_order said None t = in_order said None t (None ∷ []) (refl, refl, refl, refl)
start_in_order said (Some (by.By method)) t =
    in_order said (Some (by.By method)) t (None ∷ []) (refl, refl, refl, refl)
start_in_order said (Some by.Location) t =
    in_order said (Some by.Location) t (Some FrameOfLocation ∷ []) (refl, refl, refl, refl)
start_in_order said (Some by.Target) t = in_order said (Some by.Target) t (None ∷ []) (refl, refl, refl, refl)
