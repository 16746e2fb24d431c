-- A layout doesn't tell where the records of its modules stand.
use Rattle.std.proofs.Common.{◌≡◌, ℕ, ◌+◌, List, [], ◌∷◌, ◌++◌, map, length, Some, slice_get, refl, sym}
use Rattle.std.proofs.Common.{ap, ap₂, subst, ◌∙◌, ◌-◌, ◌==◌, if◌then◌else◌, option_map, option_and_then, Ok, Err}
use Rattle.std.specs.declared.option.Option.{Option}
use Rattle.std.specs.Option.{option_map_or}
use Rattle.std.proofs.Math.Path.{fun_ext}
use Rattle.std.proofs.lemmas.List.{length-map}
use Rattle.std.proofs.lemmas.List.Folds.{flat_map-map}
use Rattle.std.proofs.lemmas.Simd.{map-map}
use Rattle.omf_record.specs.declared.externals.PublicBase.{PublicBase}
use Rattle.omf_record.specs.declared.externals.PublicBase.TheVariants.{AtFrame, InSegment}
use Rattle.omf_module.specs.declared.Standing.{Standing}
use Rattle.omf_module.specs.declared.Standing.TheVariants.{Absolute, Relocatable}
use Rattle.omf_module.specs.Module.{Module}
use Rattle.omf_place.specs.Parts.{Site, module_sites, sites}
use Rattle.omf_place.specs.inside.Placing.{sites_from}
use Rattle.omf_place.specs.Placed.{address_of, IsPlaced}
use Rattle.omf_place.specs.Parts.{Input, inputs_from}
use Rattle.omf_place.specs.Tables.{frame_of_group, segment_frame, public_frame, in_segment, placed_public, publics_of}
use Rattle.omf_place.specs.Tables.{Grpdef}
use Rattle.omf_place.specs.Tables.{is_first_grpdef, placed_groups}
use Rattle.omf_place.specs.inside.Steps.{placed_group}
use Rattle.omf_place.specs.Layout.{Layout, layout_at}
use Rattle.omf_place.specs.declared.names.Names.{Names}
use Rattle.omf_place.specs.Faults.{PlacementFault, placement_fault}
use Rattle.omf_place.specs.inside.Placing.{IsOnlyLayout}
use Rattle.omf_place.specs.declared.layout.Position.TheVariants as stands
use Rattle.omf_commands.proofs.Placeless.{placeless, Alike, kept}

sites_same : (position input : ℕ) (modules : List Module)
    → sites_from position input (map placeless modules) ≡ sites_from position input modules
sites_same position input [] = refl
sites_same position input (m ∷ ms) =
    ap (λ ss. module_sites position input 0 m.segments ++ ss) (sites_same (position + length m.segments) (input + 1) ms)

abbrev placeless_input : Input → Input
placeless_input n = record n { says = placeless n.says }

inputs_same : (position input : ℕ) (modules : List Module)
    → inputs_from position input (map placeless modules) ≡ map placeless_input (inputs_from position input modules)
inputs_same position input [] = refl
inputs_same position input (m ∷ ms) =
    ap (λ ns. record { input = input; says = placeless m; sites = module_sites position input 0 m.segments } ∷ ns)
    (inputs_same (position + length m.segments) (input + 1) ms)

-- ---- groups and publics

group_frame_same : (modules : List Module) (addresses name : List ℕ)
    → frame_of_group (map placeless modules) addresses name ≡ frame_of_group modules addresses name
group_frame_same modules addresses name = simp (sites_same, inputs_same, flat_map-map)

public_frame_same : (modules : List Module) (addresses : List ℕ) (m : Module) (a : Site) (group : ℕ) →
    public_frame (map placeless modules) addresses (placeless m) a group ≡ public_frame modules addresses m a group
public_frame_same modules addresses m a group =
    ap₂ (λ (ss : List Site) frame. if group == 0 then Some (segment_frame ss addresses a)
    else option_and_then (λ g. frame g.name) (slice_get m.groups (group - 1)))
    (sites_same 0 0 modules) (fun_ext (group_frame_same modules addresses))

in_segment_same : (modules : List Module) (addresses : List ℕ) (m : Module) (group : ℕ) (offset : ℕ) (a : Site)
    (s : Standing) →
    in_segment (map placeless modules) addresses (placeless m) group offset a s
    ≡ in_segment modules addresses m group offset a s
in_segment_same modules addresses m group offset a (Absolute frame at) = refl
in_segment_same modules addresses m group offset a (Relocatable alignment kind) =
    ap (λ frame. stands.Relocatable (address_of addresses a + offset) frame)
    (public_frame_same modules addresses m a group)

placed_public_same : (modules : List Module) (addresses : List ℕ) (n : Input) (offset : ℕ) (b : PublicBase) →
    placed_public (map placeless modules) addresses (placeless_input n) offset b
    ≡ placed_public modules addresses n offset b
placed_public_same modules addresses n offset (AtFrame group frame) = refl
placed_public_same modules addresses n offset (InSegment group number) =
    ap (λ f. option_map f (slice_get n.sites (number - 1)))
    (fun_ext (λ (a : Site). in_segment_same modules addresses n.says group offset a a.segment.standing))

publics_of_same : (modules : List Module) (addresses : List ℕ) (n : Input)
    → publics_of (map placeless modules) addresses (placeless_input n) ≡ publics_of modules addresses n
publics_of_same modules addresses n = simp (placed_public_same modules addresses n)

is_first_same : (modules : List Module) (addresses : List ℕ) (g : Grpdef)
    → is_first_grpdef (map placeless modules) addresses g ≡ is_first_grpdef modules addresses g
is_first_same modules addresses g = simp (inputs_same, flat_map-map)

placed_group_same : (modules : List Module) (addresses : List ℕ) (g : Grpdef)
    → placed_group (map placeless modules) addresses g ≡ placed_group modules addresses g
placed_group_same modules addresses g = simp group_frame_same

placed_groups_same : (modules : List Module) (addresses : List ℕ)
    → placed_groups (map placeless modules) addresses ≡ placed_groups modules addresses
placed_groups_same modules addresses =
    rw (fun_ext (is_first_same modules addresses), fun_ext (placed_group_same modules addresses))
    (simp (inputs_same, flat_map-map))

-- ---- the layout

layout_same : (names : Names) (modules : List Module) (addresses : List ℕ) (size : ℕ)
    → layout_at names (map placeless modules) addresses size ≡ layout_at names modules addresses size
layout_same names modules addresses size =
    rw placed_groups_same (simp (sites_same, inputs_same, publics_of_same, flat_map-map, map-map, length-map))

fault_same : (names : Names) (modules : List Module) (addresses : List ℕ) (size : ℕ)
    → placement_fault names (map placeless modules) addresses size ≡ placement_fault names modules addresses size
fault_same names modules addresses size = simp (sites_same, inputs_same, publics_of_same, flat_map-map)

pub only_layout_of : (names : Names) (modules others : List Module) (layout : Layout) → Alike modules others
    → IsOnlyLayout names modules layout → IsOnlyLayout names others layout
only_layout_of names modules others layout same (addresses, size, placed, only, is) =
    let here : sites modules ≡ sites others = kept sites (sites_same 0 0) modules others same in
    let fault = kept (λ program. placement_fault names program addresses size)
    (λ program. fault_same names program addresses size) modules others same in
    let laid = kept (λ program. layout_at names program addresses size)
    (λ program. layout_same names program addresses size) modules others same in (
      addresses,
      size,
      subst (λ ss. IsPlaced ss addresses size) here placed,
      λ there end h. only there end (subst (λ ss. IsPlaced ss there end) (sym here) h),
      is ∙ ap₂ (λ (o : Option PlacementFault) (l : Layout). option_map_or Err o (Ok l)) fault laid,
    )
