-- What holds of the parts of a plan; the plan for sound modules fits its records.
use Rattle.std.proofs.Common.{◌≡◌, ℕ, zero, suc, ◌+◌, ◌<◌, ◌≤◌, Bool, true, false, not, cond, eqb, ltb, All, List, [], ◌∷◌}
use Rattle.std.proofs.Common.{length, take, drop, map, filter, insert, Option, Some, None, IfSome, refl, arith}
use Rattle.std.proofs.Common.{lit<, lit≤}
use Rattle.std.proofs.lemmas.Bool.{ltb-true}
use Rattle.std.specs.Prelude.{codes, position}
use Rattle.std.specs.List.{AllByRecursion, enumerate_from, flat_map, position_or_len, range_with_len}
use Rattle.omf_module.specs.Module.{Module, Segment}
use Rattle.omf_module.specs.Sound.{IsSound, SegmentFits}
use Rattle.omf_place.specs.declared.names.Names.{Names}
use Rattle.omf_place.specs.inside.Placing.{is_relocatable}
use Rattle.omf_order.specs.declared.order.Order.{Order}
use Rattle.omf_order.specs.declared.order.Order.TheVariants.{Meeting, Dosseg, Listed}
use Rattle.omf_order.specs.Segments.{placed, placed_in, grouped}
use Rattle.omf_order.specs.Parts.{Part, first_parts, opens, part_of}
use Rattle.omf_order.specs.Marks.{bss_end_names, data_end_names, is_wanted, wanted}
use Rattle.omf_order.specs.Keys.{arranged, dosseg_key, in_order, key_by, selectors}
use Rattle.omf_order.specs.Plan.{adds_bss, adds_end, behind_bss, bss_end_part, data_end_part, is_of, new_part, plan}
use Rattle.omf_order.specs.Plan.{others, plan_of}
use Rattle.omf_order.specs.Plan.{with_bss, with_end}
use Rattle.omf_order.specs.inside.Fits.{Fits, IsShortPart}
use Rattle.omf_write.specs.inside.Fits.{IsName}
use Rattle.omf_write.proofs.Clean.{All-append}

-- ---- what holds of each

pub All-filter : {X : Type 0} (P : X → Type 0) (p : X → Bool) (xs : List X) → AllByRecursion P xs
    → AllByRecursion P (filter p xs)
All-filter P p [] h = tt
All-filter P p (x ∷ xs) h = elim (p x) as (λ b. AllByRecursion P (cond b (x ∷ filter p xs) (filter p xs))) [
  | true ↦ (h.0, All-filter P p xs h.1)
  | false ↦ All-filter P p xs h.1
]

pub All-flat_map : {X Y : Type 0} (P : Y → Type 0) (f : X → List Y) (xs : List X) → ((x : X) → AllByRecursion P (f x))
    → AllByRecursion P (flat_map f xs)
All-flat_map P f [] h = tt
All-flat_map P f (x ∷ xs) h = All-append P (f x) (flat_map f xs) (h x) (All-flat_map P f xs h)

pub All-take : {X : Type 0} (P : X → Type 0) (n : ℕ) (xs : List X) → AllByRecursion P xs → AllByRecursion P (take n xs)
All-take P zero xs h = tt
All-take P (suc n) [] h = tt
All-take P (suc n) (x ∷ xs) h = (h.0, All-take P n xs h.1)

pub All-drop : {X : Type 0} (P : X → Type 0) (n : ℕ) (xs : List X) → AllByRecursion P xs → AllByRecursion P (drop n xs)
All-drop P zero xs h = h
All-drop P (suc n) [] h = tt
All-drop P (suc n) (x ∷ xs) h = All-drop P n xs h.1

-- from every index
pub All-each : {X : Type 0} (P : X → Type 0) (xs : List X) → All P xs → AllByRecursion P xs
All-each P [] h = tt
All-each P (x ∷ xs) h = (h 0 x (omega arith), All-each P xs (λ i d l. h (suc i) d (omega (arith, l))))

-- ---- what holds of the parts, by what holds of the segments

module _ (P : Segment → Type 0) where
  pub All-placed : (ms : List Module) → AllByRecursion (λ (m : Module). AllByRecursion P m.segments) ms
      → AllByRecursion P (placed ms)
  All-placed [] h = tt
  All-placed (m ∷ ms) h =
      All-append P (placed_in m) (placed ms)
      (All-filter P (λ s. is_relocatable s.standing) m.segments h.0) (All-placed ms h.1)

  All-numbered : (n : ℕ) (ss : List Segment) → AllByRecursion P ss
      → AllByRecursion (λ (p : ℕ × Segment). P p.1) (enumerate_from n ss)
  All-numbered n [] h = tt
  All-numbered n (s ∷ ss) h = (h.0, All-numbered (n + 1) ss h.1)

module _ (P : Segment → Type 0) (Q : Part → Type 0) (g : List Segment)
    (made : (s : Segment) → P s → Q (part_of g s)) where
  All-made : (ps : List (ℕ × Segment)) → AllByRecursion (λ (p : ℕ × Segment). P p.1) ps
      → AllByRecursion Q (map (λ (p : ℕ × Segment). part_of g p.1) ps)
  All-made [] h = tt
  All-made (p ∷ ps) h = (made p.1 h.0, All-made ps h.1)

  pub All-first : (p : List Segment) → AllByRecursion P p → AllByRecursion Q (first_parts p g)
  All-first p h =
      All-made (filter (opens p) (enumerate_from 0 p))
      (All-filter (λ (e : ℕ × Segment). P e.1) (opens p) (enumerate_from 0 p) (All-numbered P 0 p h))

module _ (Q : Part → Type 0) where
  All-arranged : (key : Part → ℕ) (n : ℕ) (ps : List Part) → AllByRecursion Q ps → AllByRecursion Q (arranged key n ps)
  All-arranged key n ps h =
      All-flat_map Q (λ k. filter (λ p. eqb (key p) k) ps) (range_with_len 0 n)
      (λ k. All-filter Q (λ p. eqb (key p) k) ps h)

  All-in_order : (order : Order) (adds : Bool) (ps : List Part) → AllByRecursion Q ps
      → AllByRecursion Q (in_order order adds ps)
  All-in_order Meeting adds ps h = h
  All-in_order (Dosseg nulls) adds ps h = All-arranged (dosseg_key adds) 6 ps h
  All-in_order (Listed items) adds ps h =
      All-arranged (key_by (selectors items.now)) (length (selectors items.now) + 1) ps h

  All-with_bss : (first : List Part) (adds : Bool) → Q (new_part (codes "_BSS") (codes "BSS")) → AllByRecursion Q first
      → AllByRecursion Q (with_bss first adds)
  All-with_bss first true new h = All-append Q first _ h (new, tt)
  All-with_bss first false new h = All-append Q first _ h tt

  All-with_end : (os : List Part) (adds : Bool) → Q (new_part (codes "_END") (codes "_END")) → AllByRecursion Q os
      → AllByRecursion Q (with_end os adds)
  All-with_end os true new h =
      let ps = others os in
      let own : AllByRecursion Q ps = All-filter Q (λ p. not (is_of (codes "_END") p)) os h in
      All-append Q (insert ps (behind_bss ps) (new_part (codes "_END") (codes "_END"))) (filter (is_of (codes "_END")) os)
      (All-append Q (take (behind_bss ps) ps) _ (All-take Q (behind_bss ps) ps own)
      (new, All-drop Q (behind_bss ps) ps own)) (All-filter Q (is_of (codes "_END")) os h)
  All-with_end os false new h = h

  -- what holds of the parts of the first segments, and of new ones, holds of all of a plan
  pub All-planned : (order : Order) (first : List Part) (data_end bss_end : List (List ℕ)) →
      Q (new_part (codes "_BSS") (codes "BSS")) → Q (new_part (codes "_END") (codes "_END")) → AllByRecursion Q first →
      AllByRecursion Q (plan_of order first data_end bss_end).parts
  All-planned order first data_end bss_end bss end h =
      let os = in_order order (adds_bss first data_end bss_end) (with_bss first (adds_bss first data_end bss_end)) in
      All-with_end os (adds_end os bss_end) end
      (All-in_order order (adds_bss first data_end bss_end) _
      (All-with_bss first (adds_bss first data_end bss_end) bss h))

-- ---- short names

-- name and class of a segment have at most 255 bytes
record IsShort (s : Segment) : Type 0 where
  name : length s.name ≤ 255
  class : length s.class ≤ 255

short_segments : (ss : List Segment) → AllByRecursion SegmentFits ss → AllByRecursion IsShort ss
short_segments [] h = tt
short_segments (s ∷ ss) h = (record { name = h.0.name; class = h.0.class }, short_segments ss h.1)

short_modules : (ms : List Module) → AllByRecursion IsSound ms
    → AllByRecursion (λ (m : Module). AllByRecursion IsShort m.segments) ms
short_modules [] h = tt
short_modules (m ∷ ms) h =
    (short_segments m.segments (All-each SegmentFits m.segments h.0.segments), short_modules ms h.1)

-- ---- places

position_within : (p : Part → Bool) (ps : List Part) → IfSome (position p ps) (λ k. k < length ps)
position_within p ps =
    (elim (ltb (position_or_len p ps) (length ps)) as (λ b.
    ltb (position_or_len p ps) (length ps) ≡ b
    → IfSome (cond b (Some (position_or_len p ps)) None) (λ k. k < length ps)) [
      | true ↦ λ e. ltb-true _ _ e
      | false ↦ λ e. tt
    ]) refl

IfSome-below : (o : Option ℕ) (n m : ℕ) → n ≤ m → IfSome o (λ k. k < n) → IfSome o (λ k. k < m)
IfSome-below None n m l h = tt
IfSome-below (Some k) n m l h = omega (arith, h)

-- ---- wanted names

few_wanted : (w : List ℕ → Bool) (a b : List ℕ) → length (filter w (a ∷ b ∷ [])) ≤ 2
few_wanted w a b = elim (w a) as (λ t. length (cond t (a ∷ cond (w b) (b ∷ []) []) (cond (w b) (b ∷ []) [])) ≤ 2) [
  | true ↦ elim (w b) as (λ t. length (a ∷ cond t (b ∷ []) []) ≤ 2) [ true ↦ omega arith | false ↦ omega arith ]
  | false ↦ elim (w b) as (λ t. length (cond t (b ∷ []) []) ≤ 2) [ true ↦ omega arith | false ↦ omega arith ]
]

data_names : AllByRecursion IsName data_end_names
data_names = (
  (lit≤ tt, (lit< tt, (lit< tt, (lit< tt, (lit< tt, (lit< tt, (lit< tt, tt))))))),
  ((lit≤ tt, (lit< tt, (lit< tt, (lit< tt, (lit< tt, (lit< tt, (lit< tt, (lit< tt, tt)))))))), tt),
)

bss_names : AllByRecursion IsName bss_end_names
bss_names = (
  (lit≤ tt, (lit< tt, (lit< tt, (lit< tt, (lit< tt, tt))))),
  ((lit≤ tt, (lit< tt, (lit< tt, (lit< tt, (lit< tt, (lit< tt, tt)))))), tt),
)

-- ---- the plan

pub data_within : (names : List (List ℕ)) (parts : List Part)
    → IfSome (data_end_part names parts) (λ k. k < length parts)
data_within [] parts = tt
data_within (n ∷ ns) parts = position_within _ parts

pub end_within : (names : List (List ℕ)) (adds : Bool) (parts : List Part)
    → IfSome (bss_end_part names adds parts) (λ k. k < length parts)
end_within [] adds parts = tt
end_within (n ∷ ns) true parts = position_within _ parts
end_within (n ∷ ns) false parts = position_within _ parts

-- a plan for sound modules of at most 16,383 parts
pub plan_fits : (order : Order) (names : Names) (program : List Module) → All IsSound program
    → length (plan order names program).parts ≤ 16383 → Fits (plan order names program)
plan_fits order names program sound count =
    let first = first_parts (placed program) (grouped program) in
    let data_end = wanted names program data_end_names in
    let bss_end = wanted names program bss_end_names in
    let os = in_order order (adds_bss first data_end bss_end) (with_bss first (adds_bss first data_end bss_end)) in
    record {
      count = count;
      parts =
          All-planned IsShortPart order first data_end bss_end (record { name = lit≤ tt; class = lit≤ tt })
          (record { name = lit≤ tt; class = lit≤ tt })
          (All-first IsShort IsShortPart (grouped program) (λ s h. record { name = h.name; class = h.class })
          (placed program) (All-placed IsShort program (short_modules program (All-each IsSound program sound))));
      data_end = record {
        part = IfSome-below _ _ 16383 count (data_within data_end (with_end os (adds_end os bss_end)));
        names = All-filter IsName (is_wanted names program) data_end_names data_names;
        few = few_wanted (is_wanted names program) (codes "_edata") (codes "__edata");
      };
      bss_end = record {
        part =
            IfSome-below _ _ 16383 count
            (end_within bss_end (adds_end os bss_end) (with_end os (adds_end os bss_end)));
        names = All-filter IsName (is_wanted names program) bss_end_names bss_names;
        few = few_wanted (is_wanted names program) (codes "_end") (codes "__end");
      };
    }
