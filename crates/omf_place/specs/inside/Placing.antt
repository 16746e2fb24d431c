-- Sites and parts, one question at a time.
use Rattle.std.specs.Prelude.{◌≡◌, ℕ, Bool, not, ◌&&◌, List, [], ◌∷◌, filter, flat_map, Ok, Err}
use Rattle.std.specs.List.{list_any}
use Rattle.std.specs.Ordering.{nat_cmp, ordering_then}
use Rattle.std.specs.declared.cmp.Ordering.{Ordering}
use Rattle.omf_module.specs.declared.Kind.TheVariants.{Public, Stack, Common}
use Rattle.omf_module.specs.declared.Standing.{Standing}
use Rattle.omf_module.specs.Faults.{is_absolute}
use Rattle.omf_module.specs.Module.{Module}
use Rattle.omf_place.specs.declared.names.Names.{Names}
use Rattle.omf_place.specs.declared.order.Rank.{Rank}
use Rattle.omf_place.specs.Faults.{IsPlacedAs, PlacementFault}
use Rattle.omf_place.specs.Layout.{Layout}
use Rattle.omf_place.specs.Parts.{Site, inputs_from, is_part, is_kind}
use Rattle.omf_place.specs.Placed.{IsPlaced}

-- the segments of some modules, where segments and inputs came before
abbrev pub sites_from : (position input : ℕ) → List Module → List Site
sites_from position input ms = flat_map (λ n. n.sites) (inputs_from position input ms)

-- a segment is a part
abbrev pub is_relocatable : Standing → Bool
is_relocatable standing = not (is_absolute standing)

-- the parts among some segments
abbrev pub parts : List Site → List Site
parts ss = filter is_part ss

-- two segments are parts whose kinds combine
abbrev pub joins : Standing → Standing → Bool
joins s t = list_any (λ kind. is_kind kind s && is_kind kind t) (Public ∷ Stack ∷ Common ∷ [])

-- a part of a common segment
abbrev pub is_common : Site → Bool
is_common a = is_kind Common a.segment.standing

-- a part of a stack segment
abbrev pub is_stack : Site → Bool
is_stack a = is_kind Stack a.segment.standing

-- by the first part of the class, then by that of the combined segment, then by the part itself
abbrev pub rank_cmp : Rank → Rank → Ordering
rank_cmp r s = ordering_then (nat_cmp r.class s.class)
    (ordering_then (nat_cmp r.segment s.segment) (nat_cmp r.own s.own))

-- a layout of a program
abbrev pub IsOnlyLayout : Names → List Module → Layout → Type 0
IsOnlyLayout names program layout = IsPlacedAs names program (Ok layout)

-- the first fault of a program
abbrev pub IsFirstFault : Names → List Module → PlacementFault → Type 0
IsFirstFault names program fault = IsPlacedAs names program (Err fault)

-- no other addresses and size stand in the relation
abbrev pub IsOnlyPlacement : List Site → List ℕ → ℕ → Type 0
IsOnlyPlacement ss addresses size =
    (others : List ℕ) (end : ℕ) → IsPlaced ss others end → (others ≡ addresses) × (end ≡ size)
