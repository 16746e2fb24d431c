-- What the walk over the units asks and leaves.
use Rattle.std.specs.Prelude.{◌≡◌, ◌≢◌, ℕ, ◌+◌, ◌<◌, ◌≤◌, List, Bool, true, false, filter, slice_index, slice_set, ◌*◌}
use Rattle.std.specs.Prelude.{if◌then◌else◌, not, ◌&&◌}
use Rattle.omf_module.specs.declared.Kind.TheVariants.{Stack, Common}
use Rattle.omf_module.specs.declared.Standing.{Standing}
use Rattle.omf_module.specs.declared.Standing.TheVariants.{Absolute, Relocatable}
use Rattle.std.specs.List.{AllByRecursion}
use Rattle.omf_place.specs.declared.starts.Measure.{Measure}
use Rattle.omf_place.specs.Parts.{Site, is_kind, placement_order}
use Rattle.omf_place.specs.inside.Ranks.{rank}
use Rattle.omf_place.specs.Placed.{IsNextStart, is_unit, unit_alignment, unit_length, alignment_of}

-- the alignment and the length with which a site is placed, where these are the greatest of its combined segment
abbrev pub measured : Site → (leads : Bool) → (greatest_alignment greatest_length : ℕ) → Measure
measured a leads alignment length = record {
  alignment = if is_kind Common a.segment.standing then alignment
      else if is_kind Stack a.segment.standing && not leads then 1 else alignment_of a.segment.standing;
  length = if is_kind Common a.segment.standing then length else a.segment.length;
}

-- how a site is placed
abbrev pub unit_measure : List Site → Site → Measure
unit_measure ss a = record { alignment = unit_alignment ss a; length = unit_length ss a }

-- its alignment and length are in range
pub record IsUnitBounded (ss : List Site) (u : Site) : Type 0 where
  pub positive : 0 < unit_alignment ss u
  pub alignment : unit_alignment ss u ≤ 256
  pub length : unit_length ss u ≤ 65536

-- the units in the order of placement
abbrev pub units : List Site → List Site
units ss = filter (is_unit ss) (placement_order ss)

-- what isn't the position of a unit stays
abbrev pub KeepsOthers : List Site → (old new : List ℕ) → Type 0
KeepsOthers ss old new =
    (p : ℕ) → AllByRecursion (λ u. u.position ≢ p) (units ss) → slice_index new p ≡ slice_index old p

-- what a step does: a unit starts next, and every other part waits
pub record Places (is_one : Bool) (m : Measure) (end : ℕ) (old new : List ℕ) (last position : ℕ) : Type 0 where
  pub unit : is_one ≡ true → IsNextStart end m.alignment (slice_index new position)
      × (new ≡ slice_set old position (slice_index new position)) × (last ≡ slice_index new position + m.length)
  pub other : is_one ≡ false → (new ≡ old) × (last ≡ end)
  pub small : last ≤ end + 65792

-- a step at a site
abbrev pub PlacesUnit : List Site → ℕ → List ℕ → List ℕ → ℕ → Site → Type 0
PlacesUnit ss end old new last u = Places (is_unit ss u) (unit_measure ss u) end old new last u.position

-- the address of a segment, from its own as a unit and that of its combined segment's first part
abbrev pub settled_by : Site → (own first : ℕ) → Standing → ℕ
settled_by a own first (Absolute frame offset) = 16 * frame + offset
settled_by a own first (Relocatable alignment kind) = if is_kind Common a.segment.standing then first else own

-- the address of each site, from those of the units
abbrev pub settled_at : List Site → List ℕ → Site → Standing → ℕ
settled_at ss addresses a (Absolute frame offset) = 16 * frame + offset
settled_at ss addresses a (Relocatable alignment kind) =
    if is_unit ss a then slice_index addresses a.position else slice_index addresses (rank ss a).segment

-- the address of a site, from those of the units
abbrev pub settled : List Site → List ℕ → Site → ℕ
settled ss addresses a = settled_at ss addresses a a.segment.standing
