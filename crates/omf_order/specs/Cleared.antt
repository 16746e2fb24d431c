-- What start-up code clears: what stands from the end of data to the end of class BSS. Data with values there would be
-- lost.
use Rattle.std.specs.Prelude.{ℕ, Bool, not, ◌&&◌, ◌||◌, List, filter, map, take, slice_get, if◌then◌else◌, codes}
use Rattle.std.specs.Prelude.{Option, None}
use Rattle.std.specs.List.{enumerate_from, flat_map, list_any}
use Rattle.std.specs.Option.{option_and_then, option_to_list}
use Rattle.std.specs.Str.{bytes_eq}
use Rattle.omf_module.specs.Module.{DataRecord, Module, Segment}
use Rattle.omf_place.specs.Parts.{is_kind}
use Rattle.omf_order.specs.Parts.{Part}
use Rattle.omf_order.specs.Plan.{Plan, is_empty}

-- a segment combines with a part: kind, name and class agree, and the kind isn't private
abbrev pub joins : Segment → Part → Bool
joins s p = is_kind p.kind s.standing && (bytes_eq s.name p.name && bytes_eq s.class p.class)

-- A segment, which isn't absolute, is of class BSS and stands behind these parts, which come before the first of that
-- class in DGROUP: it combines with none of them. Private segments stand behind all that combine.
abbrev pub is_cleared : (early : List Part) → Segment → Bool
is_cleared early s = bytes_eq s.class (codes "BSS") && not (list_any (joins s) early)

-- a data record (LEDATA, LIDATA), which is of no absolute segment, has a byte
abbrev pub has_bytes : DataRecord → Bool
has_bytes d = not (is_empty d.pairs)

-- data that would be cleared: its module's place in the program, and its segment's name
pub record Lost : Type 0 where
  pub input : ℕ
  pub segment : List ℕ

-- what a data record of a module has of that
abbrev pub lost_by : (early : List Part) → ℕ × Module → DataRecord → List Lost
lost_by early m d = map (λ s. record { input = m.0; segment = s.name })
    (filter (λ s. has_bytes d && is_cleared early s) (option_to_list (slice_get m.1.segments d.segment)))

-- what all of a module have, by its place
abbrev pub lost_in : (early : List Part) → ℕ × Module → List Lost
lost_in early m = flat_map (lost_by early m) m.1.data_records

-- Where start-up code begins to clear, by a part's place: it does where both the end of data and the end of class BSS
-- are wanted.
abbrev pub clears_from : Plan → Option ℕ
clears_from p = if is_empty p.data_end.names || is_empty p.bss_end.names then None else p.data_end.part

-- the first, in order of modules and of their records
abbrev pub data_in_bss : List Module → Plan → Option Lost
data_in_bss program p = option_and_then
    (λ start. slice_get (flat_map (lost_in (take start p.parts)) (enumerate_from 0 program)) 0) (clears_from p)
