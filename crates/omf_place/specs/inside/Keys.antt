-- What sites combine by, as a key.
use Rattle.std.specs.Prelude.{ℕ, Bool, true, false, ◌==◌, ◌&&◌, List, Option, Some, None, if◌then◌else◌}
use Rattle.std.specs.List.{position_or_len}
use Rattle.std.specs.Str.{bytes_eq}
use Rattle.omf_module.specs.declared.Kind.{Kind}
use Rattle.omf_module.specs.declared.Kind.TheVariants.{Private, Public, Stack, Common}
use Rattle.omf_module.specs.declared.Standing.{Standing}
use Rattle.omf_module.specs.declared.Standing.TheVariants.{Absolute, Relocatable}
use Rattle.omf_place.specs.Parts.{Site, combines, is_part}
use Rattle.omf_place.specs.declared.order.Joining.{Joining}
use Rattle.omf_place.specs.declared.order.Joining.TheVariants as joining
use Rattle.omf_place.specs.declared.order.SegmentKey.{SegmentKey}
use Rattle.omf_place.specs.declared.order.SegmentKey.TheVariants as held
use Rattle.omf_place.specs.declared.order.ClassKey.{ClassKey}
use Rattle.omf_place.specs.declared.order.ClassKey.TheVariants as held_class

-- a site by itself, or all of a kind, name and class
pub data Key : Type 0 where
  Alone : (position : ℕ) → Key
  Joined : (kind : Joining) → (name class : List ℕ) → Key

-- by what kind a part combines
abbrev pub joining_of_kind : Kind → Option Joining
joining_of_kind Private = None
joining_of_kind Public = Some joining.Public
joining_of_kind Stack = Some joining.Stack
joining_of_kind Common = Some joining.Common

-- by what kind a segment combines
abbrev pub joining_of : Standing → Option Joining
joining_of (Absolute frame offset) = None
joining_of (Relocatable alignment kind) = joining_of_kind kind

-- the key of a site that combines by a kind, or by none
abbrev pub key_by : Site → Option Joining → Key
key_by a None = Alone a.position
key_by a (Some kind) = Joined kind a.segment.name a.segment.class

-- what a site combines by
abbrev pub key : Site → Key
key a = key_by a (joining_of a.segment.standing)

-- two kinds are one
abbrev pub same_joining : Joining → Joining → Bool
same_joining joining.Public joining.Public = true
same_joining joining.Stack joining.Stack = true
same_joining joining.Common joining.Common = true
same_joining j k = false

-- two keys are one
abbrev pub same_key : Key → Key → Bool
same_key (Alone p) (Alone q) = p == q
same_key (Joined j n c) (Joined k m d) = same_joining j k && (bytes_eq n m && bytes_eq c d)
same_key x y = false

-- a key as the code holds it
abbrev pub key_view : SegmentKey → Key
key_view (held.Alone position) = Alone position
key_view (held.Joined kind name class) = Joined kind name.now class.now

-- the class of a part
abbrev pub class_of : Site → Option (List ℕ)
class_of a = if is_part a then Some a.segment.class else None

-- a class as a value
abbrev pub class_view : ClassKey → Option (List ℕ)
class_view held_class.Absolute = None
class_view (held_class.Of name) = Some name.now

-- two classes are one
abbrev pub same_option : Option (List ℕ) → Option (List ℕ) → Bool
same_option None None = true
same_option (Some x) (Some y) = bytes_eq x y
same_option x y = false

-- where the class of a site is first met
abbrev pub class_place : List Site → Site → ℕ
class_place ss a = position_or_len (λ b. same_option (class_of a) (class_of b)) ss

-- where the combined segment of a site is first met
abbrev pub segment_place : List Site → Site → ℕ
segment_place ss a = position_or_len (combines a) ss
