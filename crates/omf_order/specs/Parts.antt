-- The parts that open the classes and combined segments of a program: they have no bytes, or null bytes.
use Rattle.std.specs.Prelude.{ℕ, Bool, true, false, ◌==◌, ◌&&◌, List, filter, map, if◌then◌else◌, codes}
use Rattle.std.specs.List.{enumerate_from, list_any, position_or_len}
use Rattle.std.specs.Str.{bytes_eq}
use Rattle.omf_module.specs.declared.Kind.{Kind}
use Rattle.omf_module.specs.declared.Kind.TheVariants.{Private, Public, Stack, Common}
use Rattle.omf_module.specs.declared.Standing.{Standing}
use Rattle.omf_module.specs.declared.Standing.TheVariants.{Absolute, Relocatable}
use Rattle.omf_module.specs.Module.{Segment}
use Rattle.omf_order.specs.Segments.{same_class, combine, kind_of}

-- A segment of the order module: its name and class, its alignment in bytes, and its kind; whether its combined segment
-- is in DGROUP, and whether a segment of its class is.
pub record Part : Type 0 where
  pub name : List ℕ
  pub class : List ℕ
  pub alignment : ℕ
  pub kind : Kind
  pub in_group : Bool
  pub class_in_group : Bool

-- a segment that never combines
abbrev pub is_private : Kind → Bool
is_private Private = true
is_private Public = false
is_private Stack = false
is_private Common = false

-- a segment that combines with those of its name and class, one behind the other
abbrev pub is_public : Kind → Bool
is_public Private = false
is_public Public = true
is_public Stack = false
is_public Common = false

-- the code segment of small programs
abbrev pub is_text : Part → Bool
is_text p = is_public p.kind && bytes_eq p.name (codes "_TEXT")

-- A part has the alignment of the first segment that it combines with: then that one stands where it would without the
-- part. A private segment is stood for by its class alone.
abbrev pub alignment_of : Standing → ℕ
alignment_of (Absolute frame offset) = 1
alignment_of (Relocatable alignment kind) = if is_private kind then 1 else alignment

-- the part that stands for a segment, where these are in DGROUP
abbrev pub part_of : List Segment → Segment → Part
part_of grouped s = record {
  name = s.name;
  class = s.class;
  alignment = alignment_of s.standing;
  kind = kind_of s.standing;
  in_group = list_any (combine s) grouped;
  class_in_group = list_any (same_class s) grouped;
}

-- Where what a segment opens is first met: its combined segment, or the class of a private one.
abbrev pub first_place : List Segment → Segment → ℕ
first_place placed s =
    position_or_len (if is_private (kind_of s.standing) then same_class s else combine s) placed

-- a segment, by its place, is the first of its combined segment, or a private one the first of its class
abbrev pub opens : List Segment → ℕ × Segment → Bool
opens placed p = first_place placed p.1 == p.0

-- the parts of these segments, in order of first meeting
abbrev pub first_parts : (placed grouped : List Segment) → List Part
first_parts placed grouped = map (λ p. part_of grouped p.1) (filter (opens placed) (enumerate_from 0 placed))
