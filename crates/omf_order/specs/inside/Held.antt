-- What the code holds, as values.
use Rattle.std.specs.Prelude.{◌≡◌, ℕ, Bool, true, false, not, ◌==◌, ◌&&◌, ◌||◌, List, filter, length, map, Option}
use Rattle.std.specs.Prelude.{Vec, [], ◌∷◌, ◌++◌, codes, get_or, set}
use Rattle.std.specs.Str.{bytes_eq}
use Rattle.std.specs.List.{position_or_len, range_with_len}
use Rattle.std.specs.Option.{option_map}
use Rattle.std.specs.Borrow.{Bor}
use Rattle.omf_module.specs.declared.Kind.{Kind}
use Rattle.omf_module.specs.declared.Kind.TheVariants as kind
use Rattle.omf_module.specs.declared.lookups.Segment.{Segment}
use Rattle.omf_module.specs.Module as says
use Rattle.omf_module.specs.Seen.{segment_seen}
use Rattle.omf_order.specs.declared.cleared.Lost as lost
use Rattle.omf_order.specs.declared.keys.Selector as held
use Rattle.omf_order.specs.declared.openings.Combining.{Combining}
use Rattle.omf_order.specs.declared.openings.Joining.{Joining}
use Rattle.omf_order.specs.declared.openings.Joining.TheVariants as joins
use Rattle.omf_order.specs.declared.parts.Part as part
use Rattle.omf_order.specs.declared.planning.Mark as mark
use Rattle.omf_order.specs.declared.planning.Plan as plan
use Rattle.omf_order.specs.Keys.{Selector}
use Rattle.omf_order.specs.Parts.{Part, alignment_of, is_private}
use Rattle.omf_order.specs.Segments.{kind_of, same_class}
use Rattle.omf_order.specs.Cleared.{Lost}
use Rattle.omf_order.specs.Plan.{Mark, Plan, is_of}

-- a part as the code holds it
abbrev pub CodePart : Type 0
CodePart = part.Part

-- segments
abbrev pub segments_view : List Segment → List says.Segment
segments_view ss = map segment_seen ss

-- names
abbrev pub names_view : List (Bor (List ℕ)) → List (List ℕ)
names_view ns = map (λ n. n.now) ns

-- a part
abbrev pub part_view : part.Part → Part
part_view p = record {
  name = p.name.now;
  class = p.class.now;
  alignment = p.alignment;
  kind = p.kind;
  in_group = p.in_group;
  class_in_group = p.class_in_group;
}

-- parts
abbrev pub parts_view : List part.Part → List Part
parts_view ps = map part_view ps

-- how a kind combines
abbrev pub joining : Kind → Joining
joining kind.Private = joins.Private
joining kind.Public = joins.Public
joining kind.Stack = joins.Stack
joining kind.Common = joins.Common

-- what a segment combines by
abbrev pub combining : Segment → Combining
combining s = record { kind = joining (kind_of s.standing); name = s.name; class = s.class }

-- two kinds are one
abbrev pub same_joining : Joining → Joining → Bool
same_joining joins.Private joins.Private = true
same_joining joins.Public joins.Public = true
same_joining joins.Stack joins.Stack = true
same_joining joins.Common joins.Common = true
same_joining j k = false

-- two segments are of one kind, name and class
abbrev pub same_key : says.Segment → says.Segment → Bool
same_key a b = same_joining (joining (kind_of a.standing)) (joining (kind_of b.standing))
    && (bytes_eq a.name b.name && same_class a b)

-- the places at which the class, and the kind with name and class, of some segments are first met among others
pub record AreMet (asked among : List Segment) (classes combined : List ℕ) : Type 0 where
  pub by_class : classes ≡ map (λ s. position_or_len (same_class s) (segments_view among)) (segments_view asked)
  pub by_key : combined ≡ map (λ s. position_or_len (same_key s) (segments_view among)) (segments_view asked)
  pub class_count : length classes ≡ length asked
  pub key_count : length combined ≡ length asked

-- the part that stands for a segment whose kind, name and class one in DGROUP has, or not
abbrev pub part_with : says.Segment → (is_found class_in_group : Bool) → Part
part_with s is_found class_in_group = record {
  name = s.name;
  class = s.class;
  alignment = alignment_of s.standing;
  kind = kind_of s.standing;
  in_group = not (is_private (kind_of s.standing)) && is_found;
  class_in_group = class_in_group;
}

-- a part of a class, in DGROUP if that is asked
abbrev pub is_found : (in_group : Bool) → List ℕ → Part → Bool
is_found in_group class p = (p.in_group || not in_group) && bytes_eq p.class class

-- a name that may be there
abbrev pub name_view : Option (Bor (List ℕ)) → Option (List ℕ)
name_view o = option_map (λ n. n.now) o

-- what a list selects
abbrev pub selector_view : held.Selector → Selector
selector_view s = record { class = s.class.now; segment = option_map (λ n. n.now) s.segment }

-- a mark
abbrev pub mark_view : {A : Type 0} → mark.Mark A → Mark
mark_view m = record { names = names_view m.names.items; part = m.part }

-- a plan
abbrev pub plan_view : {A : Type 0} → plan.Plan A → Plan
plan_view p = record {
  parts = parts_view p.parts.items;
  data_end = mark_view p.data_end;
  bss_end = mark_view p.bss_end;
  null_bytes = p.null_bytes;
}

-- a part of the new class behind class BSS, or of another
abbrev pub is_by_end : (is_of_it : Bool) → Part → Bool
is_by_end true p = is_of (codes "_END") p
is_by_end false p = not (is_of (codes "_END") p)

-- the items of a key
abbrev pub of_key : {T : Type 0} → List (ℕ × T) → ℕ → List T
of_key keyed key = map (λ p. p.1) (filter (λ p. p.0 == key) keyed)

-- lists
abbrev pub lists_view : {T A : Type 0} → List (Vec T A) → List (List T)
lists_view vs = map (λ v. v.items) vs

-- lists with an item more in the one at a place
abbrev pub with_item : {T : Type 0} → List (List T) → ℕ → T → List (List T)
with_item lists place item = set lists place (get_or lists place [] ++ item ∷ [])

-- for each key below a count the items of that key
abbrev pub AreByKey : {T A : Type 0} → List (Vec T A) → (count : ℕ) → List (ℕ × T) → Type 0
AreByKey lists count keyed = lists_view lists ≡ map (of_key keyed) (range_with_len 0 count)

-- what combines with a part
abbrev pub part_key : part.Part → Combining
part_key p = record { kind = joining p.kind; name = p.name; class = p.class }

-- data that would be cleared
abbrev pub lost_view : lost.Lost → Lost
lost_view l = record { input = l.module; segment = l.segment.now }
