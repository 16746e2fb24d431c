-- What the frame and the target of a reference stand for under a layout (TIS OMF 1.1, FIXUPP).
use Rattle.std.specs.Prelude.{ℕ, ◌-◌, ◌*◌, if◌then◌else◌, false, [], Option, Some, None, get_or, Result, Ok, Err}
use Rattle.std.specs.Option.{option_map, ok_or}
use Rattle.std.specs.Result.{result_map_both}
use Rattle.omf_record.specs.declared.fixups.FrameMethod.{FrameMethod}
use Rattle.omf_record.specs.declared.fixups.FrameMethod.TheVariants as by
use Rattle.omf_record.specs.declared.fixups.TargetMethod.{TargetMethod}
use Rattle.omf_record.specs.declared.fixups.TargetMethod.TheVariants as to
use Rattle.omf_module.specs.Module.{ExternalSymbol, Module}
use Rattle.omf_image.specs.declared.reference.Base.{Base as Frame}
use Rattle.omf_image.specs.declared.reference.Base.TheVariants.{Relocatable as Moving, Absolute as Fixed}
use Rattle.omf_place.specs.Names.{means}
use Rattle.omf_place.specs.declared.names.Names.TheVariants.{Exact}
use Rattle.omf_place.specs.Layout.{Layout, group_frame, segment_position}
use Rattle.omf_image.specs.declared.faults.FixKind.{FixKind}
use Rattle.omf_image.specs.declared.faults.FixKind.TheVariants.{Unresolved, EmptyGroup}
use Rattle.omf_place.specs.declared.layout.Position.{Position}
use Rattle.omf_place.specs.declared.layout.Position.TheVariants.{Relocatable, Absolute}
use Rattle.omf_image.specs.declared.reference.Resolved.{Resolved}

-- both; where neither is found, an external that means no public is named before a group without members
abbrev pub both : {A B : Type 0} → Result A FixKind → Result B FixKind → Result (A × B) FixKind
both (Ok a) (Ok b) = Ok (a, b)
both (Ok a) (Err kind) = Err kind
both (Err EmptyGroup) (Err kind) = Err kind
both (Err kind) _ = Err kind

-- the frame of what stands somewhere, where that was found
abbrev pub own_frame : Result Position FixKind → Result Frame FixKind
own_frame (Ok (Relocatable address None)) = Err EmptyGroup
own_frame (Ok (Relocatable address (Some frame))) = Ok (Moving frame)
own_frame (Ok (Absolute address frame)) = Ok (Fixed frame)
own_frame (Err kind) = Err kind

-- What an external of a module means: a local one the local public of its name in its own module and nothing else,
-- another one the public of its name and never a local one.
abbrev pub meant : Layout → (input : ℕ) → ExternalSymbol → Option Position
meant layout input external =
    if external.local then means (get_or layout.locals input (record { names = Exact; entries = [] })) external.name
    else means layout.publics external.name

-- Where a target stands, in the module of an input: a group at 16 times its frame, which it has if it has members, an
-- external where the public that it means stands.
abbrev pub target_of : Layout → (input : ℕ) → Module → TargetMethod → Result Position FixKind
target_of layout input module' (to.Segment index) = Ok (segment_position layout input (index - 1))
target_of layout input module' (to.Group index) =
    ok_or (option_map (λ f. Relocatable (16 * f) (Some f)) (group_frame layout input (index - 1))) EmptyGroup
target_of layout input module' (to.External index) =
    let symbol = get_or module'.externals (index - 1) (record { name = []; local = false }) in
    ok_or (meant layout input symbol) Unresolved

-- the frame that a method names; here is the segment of the data record
abbrev pub frame_by : Layout → (input : ℕ) → Module → (here : ℕ) → TargetMethod → FrameMethod → Result Frame FixKind
frame_by layout input module' here target (by.By method) = own_frame (target_of layout input module' method)
frame_by layout input module' here target by.Location = own_frame (Ok (segment_position layout input here))
frame_by layout input module' here target by.Target = own_frame (target_of layout input module' target)

-- where the target is absolute and the frame relocatable, the target's own frame is used in the frame's place
abbrev pub used_frame : (target : Position) → (named : Frame) → Frame
used_frame (Relocatable address own) named = named
used_frame (Absolute address own) (Moving named) = Fixed own
used_frame (Absolute address own) (Fixed named) = Fixed named

-- the frame that is used
abbrev pub frame' : Resolved → Frame
frame' reference = used_frame reference.target reference.named_frame

-- a reference with its frame and its target found
abbrev pub resolved : Layout → (input : ℕ) → Module → (here : ℕ) → FrameMethod → TargetMethod → (displacement : ℕ)
    → Result Resolved FixKind
resolved layout input module' here frame target displacement =
    result_map_both (λ f. record { target = f.0; named_frame = f.1; displacement = displacement }) (λ kind. kind)
    (both (target_of layout input module' target) (frame_by layout input module' here target frame))
