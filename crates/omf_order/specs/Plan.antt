-- Which parts the order module has, in what order, and what names it defines.
use Rattle.std.specs.Prelude.{ℕ, Bool, true, false, not, ◌+◌, ◌==◌, ◌&&◌, ◌||◌, nat_lt, List, [], ◌∷◌, ◌++◌}
use Rattle.std.specs.Prelude.{filter, find, insert, length, position, if◌then◌else◌, Option, None, codes}
use Rattle.std.specs.List.{enumerate_from, list_any, position_or_len}
use Rattle.std.specs.Option.{option_map_or}
use Rattle.std.specs.Str.{bytes_eq}
use Rattle.omf_module.specs.declared.Kind.TheVariants.{Private}
use Rattle.omf_module.specs.Module.{Module}
use Rattle.omf_place.specs.declared.names.Names.{Names}
use Rattle.omf_order.specs.declared.order.Order.{Order}
use Rattle.omf_order.specs.declared.order.Order.TheVariants.{Meeting, Dosseg, Listed}
use Rattle.omf_order.specs.Segments.{placed, grouped}
use Rattle.omf_order.specs.Parts.{Part, first_parts}
use Rattle.omf_order.specs.Marks.{wanted, data_end_names, bss_end_names}
use Rattle.omf_order.specs.Keys.{in_order}

-- names that stand for the begin of a part, by its place
pub record Mark : Type 0 where
  pub names : List (List ℕ)
  pub part : Option ℕ

-- the parts of the order module, its marks, and whether there are null bytes in front of `_TEXT`
pub record Plan : Type 0 where
  pub parts : List Part
  pub data_end : Mark
  pub bss_end : Mark
  pub null_bytes : Bool

-- a new part in DGROUP
abbrev pub new_part : (name class : List ℕ) → Part
new_part name class = record {
  name = name;
  class = class;
  alignment = 1;
  kind = Private;
  in_group = true;
  class_in_group = true;
}

-- there is none
abbrev pub is_empty : {X : Type 0} → List X → Bool
is_empty [] = true
is_empty (_ ∷ _) = false

-- a part of a class
abbrev pub is_of : List ℕ → Part → Bool
is_of class p = bytes_eq p.class class

-- a part in DGROUP of a class
abbrev pub is_in_group : List ℕ → Part → Bool
is_in_group class p = p.in_group && is_of class p

-- ---- Where class BSS ends. Classes stand in the order of their first parts, and parts of a class that stand apart in
-- ---- the list stand together in the program.

-- the place of the first part of a class
abbrev pub class_place : List ℕ → List Part → ℕ
class_place class parts = position_or_len (is_of class) parts

-- a part, by its place, is the first of its class, and that class stands behind class BSS
abbrev pub opens_behind_bss : List Part → ℕ × Part → Bool
opens_behind_bss parts p =
    nat_lt (class_place (codes "BSS") parts) p.0 && class_place p.1.class parts == p.0

-- the class that stands right behind class BSS is class STACK, and its first part is in DGROUP
abbrev pub stack_follows : List Part → Bool
stack_follows parts = option_map_or (λ p. is_in_group (codes "STACK") p.1)
    (find (opens_behind_bss parts) (enumerate_from 0 parts)) false

-- where it isn't, a new class in DGROUP stands right behind class BSS, so that it begins where that one ends
abbrev pub adds_end : (ordered : List Part) (bss_end : List (List ℕ)) → Bool
adds_end ordered bss_end = not (is_empty bss_end) && not (stack_follows ordered)

-- where a name is wanted and no part of class BSS is in DGROUP, there is a new one
abbrev pub adds_bss : (first : List Part) (data_end bss_end : List (List ℕ)) → Bool
adds_bss first data_end bss_end =
    (not (is_empty data_end) || not (is_empty bss_end)) && not (list_any (is_in_group (codes "BSS")) first)

-- with that part behind them
abbrev pub with_bss : List Part → (adds_bss : Bool) → List Part
with_bss first adds_bss = first ++ (if adds_bss then new_part (codes "_BSS") (codes "BSS") ∷ [] else [])

-- the parts of any class but the new one's
abbrev pub others : List Part → List Part
others parts = filter (λ p. not (is_of (codes "_END") p)) parts

-- the place behind the first part of class BSS
abbrev pub behind_bss : List Part → ℕ
behind_bss parts = option_map_or (λ place. place + 1) (position (is_of (codes "BSS")) parts) (length parts)

-- with the new class behind class BSS; what the program has of a class of that name is of the new one then
abbrev pub with_end : List Part → (adds_end : Bool) → List Part
with_end parts adds_end =
    if adds_end then insert (others parts) (behind_bss (others parts)) (new_part (codes "_END") (codes "_END"))
    ++ filter (is_of (codes "_END")) parts
    else parts

-- ---- the marks

-- the part of the names of the end of data: the first of class BSS in DGROUP
abbrev pub data_end_part : (data_end : List (List ℕ)) (parts : List Part) → Option ℕ
data_end_part data_end parts =
    if is_empty data_end then None else position (is_in_group (codes "BSS")) parts

-- the part of the names of the end of class BSS: the first of the new class, or that of class STACK
abbrev pub bss_end_part : (bss_end : List (List ℕ)) (adds_end : Bool) (parts : List Part) → Option ℕ
bss_end_part bss_end adds_end parts =
    if is_empty bss_end then None
    else if adds_end then position (is_of (codes "_END")) parts
    else position (is_of (codes "STACK")) parts

-- the order asks for null bytes (Microsoft's LINK, /DOSSEG and /NONULLSDOSSEG)
abbrev pub asks_null_bytes : Order → Bool
asks_null_bytes Meeting = false
asks_null_bytes (Dosseg null_bytes) = null_bytes
asks_null_bytes (Listed items) = false

-- the plan of parts in order
abbrev pub plan_with : (null_bytes : Bool) (ordered : List Part) (data_end bss_end : List (List ℕ)) → Plan
plan_with null_bytes ordered data_end bss_end =
    let adds = adds_end ordered bss_end in
    record {
      parts = with_end ordered adds;
      data_end = record { names = data_end; part = data_end_part data_end (with_end ordered adds) };
      bss_end = record { names = bss_end; part = bss_end_part bss_end adds (with_end ordered adds) };
      null_bytes = null_bytes;
    }

-- the plan, by the parts that segments open and the names that are wanted
abbrev pub plan_of : Order → (first : List Part) (data_end bss_end : List (List ℕ)) → Plan
plan_of order first data_end bss_end =
    plan_with (asks_null_bytes order)
    (in_order order (adds_bss first data_end bss_end) (with_bss first (adds_bss first data_end bss_end)))
    data_end bss_end

-- the plan for a program
abbrev pub plan : Order → Names → List Module → Plan
plan order names program = plan_of order (first_parts (placed program) (grouped program))
    (wanted names program data_end_names) (wanted names program bss_end_names)

-- no order is asked
abbrev pub is_meeting : Order → Bool
is_meeting Meeting = true
is_meeting (Dosseg null_bytes) = false
is_meeting (Listed items) = false

-- there is nothing to order and no name to define
abbrev pub is_needless : Order → Plan → Bool
is_needless order p =
    is_empty p.parts || (is_meeting order && (is_empty p.data_end.names && is_empty p.bss_end.names))
