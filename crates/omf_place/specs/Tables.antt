-- Combined segments, groups and publics of a placed program (TIS OMF 1.1, SEGDEF, GRPDEF and PUBDEF).
use Rattle.std.specs.Prelude.{ℕ, ◌+◌, ◌-◌, ◌*◌, ◌/◌, min, max, Bool, false, ◌==◌, ◌&&◌, if◌then◌else◌, List}
use Rattle.std.specs.Prelude.{filter, map, fold, find}
use Rattle.std.specs.Prelude.{Option, Some, None, slice_index, slice_get}
use Rattle.std.specs.Bool.{then_some}
use Rattle.std.specs.List.{enumerate_from, flat_map}
use Rattle.std.specs.Option.{option_map, option_map_or, option_and_then, option_to_list}
use Rattle.std.specs.Str.{bytes_eq}
use Rattle.omf_record.specs.declared.externals.PublicBase.{PublicBase}
use Rattle.omf_record.specs.declared.externals.PublicBase.TheVariants.{AtFrame, InSegment}
use Rattle.omf_module.specs.declared.Standing.{Standing}
use Rattle.omf_module.specs.declared.Standing.TheVariants.{Absolute, Relocatable}
use Rattle.omf_module.specs.Module.{Module, PublicSymbol}
use Rattle.omf_place.specs.Parts.{Site, sites, first_of_segment, placement_order}
use Rattle.omf_place.specs.Placed.{greatest, members, leads, address_of}
use Rattle.omf_place.specs.Parts.{Input, inputs}
use Rattle.omf_place.specs.Scopes.{ScopedName}
use Rattle.omf_place.specs.declared.layout.Combined.{Combined}
use Rattle.omf_place.specs.declared.layout.GroupPlace.{GroupPlace}
use Rattle.omf_place.specs.declared.layout.Position.{Position}
use Rattle.omf_place.specs.declared.layout.Position.TheVariants as position

-- the combined segments in the order of placement, each by its first part
abbrev pub leaders : List Site → List Site
leaders ss = filter (leads ss) (placement_order ss)

-- A combined segment is named by any of its parts. It starts with its first part, and ends with the greatest end.
module _ (ss : List Site) (addresses : List ℕ) where
  -- the address of its first part
  abbrev pub segment_start : Site → ℕ
  segment_start a = slice_index addresses (first_of_segment ss a)

  -- the greatest end of its parts
  abbrev pub segment_end : Site → ℕ
  segment_end a = greatest (λ b. address_of addresses b + b.segment.length) (members ss a)

  -- the paragraph of its start
  abbrev pub segment_frame : Site → ℕ
  segment_frame a = segment_start a / 16

  -- a combined segment, as a layout says it
  abbrev pub combined_segment : Site → Combined
  combined_segment a = record { start = segment_start a; end = segment_end a; input = a.input; segment = a.number }

  -- where a segment stands, by its own definition
  abbrev pub placed_at : Site → Standing → Position
  placed_at a (Absolute frame offset) = position.Absolute (16 * frame + offset) frame
  placed_at a (Relocatable alignment kind) = position.Relocatable (address_of addresses a) (Some (segment_frame a))

-- a GRPDEF, with the sites of its components
pub record Grpdef : Type 0 where
  pub input : ℕ
  pub group : ℕ
  pub name : List ℕ
  pub sites : List Site

-- the GRPDEFs of a module
abbrev pub grpdefs_of : Input → List Grpdef
grpdefs_of n =
    let components : List ℕ → List Site = λ members. flat_map (λ k. option_to_list (slice_get n.sites k)) members in
    map (λ g. record { input = n.input; group = g.0; name = g.1.name; sites = components g.1.members })
    (enumerate_from 0 n.says.groups)

-- those of a program, in order of inputs and records
abbrev pub grpdefs : List Module → List Grpdef
grpdefs program = flat_map grpdefs_of (inputs program)

-- the least start and the greatest end of some combined segments, with one more
abbrev pub widen : Option (ℕ × ℕ) → (start end : ℕ) → Option (ℕ × ℕ)
widen None start end = Some (start, end)
widen (Some s) start end = Some (min s.0 start, max s.1 end)

-- the least start and the greatest end of the combined segments of some parts, where there are any
abbrev pub span : List Site → (addresses : List ℕ) → List Site → Option (ℕ × ℕ)
span ss addresses parts = fold (λ s a. widen s (segment_start ss addresses a) (segment_end ss addresses a)) None parts

module _ (program : List Module) (addresses : List ℕ) where
  -- All GRPDEFs of one name are one group.
  abbrev pub group_span : List ℕ → Option (ℕ × ℕ)
  group_span name = span (sites program) addresses
      (flat_map (λ g. g.sites) (filter (λ g. bytes_eq name g.name) (grpdefs program)))

  -- the paragraph of a group's start, where it has members
  abbrev pub frame_of_group : List ℕ → Option ℕ
  frame_of_group name = option_map (λ s. s.0 / 16) (group_span name)

  -- whether a GRPDEF is the first of its name
  abbrev pub is_first_grpdef : Grpdef → Bool
  is_first_grpdef g = option_map_or (λ f. f.input == g.input && f.group == g.group)
      (find (λ f. bytes_eq g.name f.name) (grpdefs program)) false

  -- the groups in order of first meeting, each by its first GRPDEF
  abbrev pub placed_groups : List GroupPlace
  placed_groups = map (λ (g : Grpdef). record { frame = frame_of_group g.name; input = g.input; group = g.group })
      (filter is_first_grpdef (grpdefs program))

  -- a public of a part has the frame of its group, where it has one: its index isn't 0; and else that of its segment
  abbrev pub public_frame : Module → Site → (group : ℕ) → Option ℕ
  public_frame m a group =
      if group == 0 then Some (segment_frame (sites program) addresses a)
      else option_and_then (λ g. frame_of_group g.name) (slice_get m.groups (group - 1))

  -- a public of a segment: it moves with the program where the segment is a part
  abbrev pub in_segment : Module → (group : ℕ) → (offset : ℕ) → Site → Standing → Position
  in_segment m group offset a (Absolute frame at) = position.Absolute (16 * frame + at + offset) frame
  in_segment m group offset a (Relocatable alignment kind) =
      position.Relocatable (address_of addresses a + offset) (public_frame m a group)

  -- what a public stands for, if its segment is there
  abbrev pub placed_public : Input → (offset : ℕ) → PublicBase → Option Position
  placed_public n offset (AtFrame group frame) = Some (position.Absolute (16 * frame + offset) frame)
  placed_public n offset (InSegment group segment) =
      option_map (λ a. in_segment n.says group offset a a.segment.standing) (slice_get n.sites (segment - 1))

  -- the publics of a module, where a local one is one of its module alone
  abbrev pub publics_of : Input → List (ScopedName Position)
  publics_of n = flat_map (λ (p : PublicSymbol). option_to_list (option_map (λ placed.
      record { owner = then_some p.local n.input; name = p.name; value = placed })
      (placed_public n p.offset p.base))) n.says.publics

  -- the publics, local ones too, in order of inputs and records
  abbrev pub placed_publics : List (ScopedName Position)
  placed_publics = flat_map publics_of (inputs program)
