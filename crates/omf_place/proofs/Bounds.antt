-- Units of sound segments are bounded.
use Rattle.std.proofs.Common.{◌≡◌, ℕ, ◌<◌, ◌≤◌, max, true, false, cond, not, ◌&&◌, List, [], ◌∷◌, fold, Some, slice_get, arith}
use Rattle.std.proofs.Common.{lit≤, lit<}
use Rattle.std.specs.List.{AllByRecursion}
use Rattle.omf_module.specs.declared.Standing.{Standing}
use Rattle.omf_module.specs.declared.Standing.TheVariants.{Absolute, Relocatable}
use Rattle.omf_module.specs.Sound.{SegmentFits, IsStanding}
use Rattle.omf_place.specs.Parts.{Site, combines, placement_order, is_part}
use Rattle.omf_place.specs.inside.Ranks.{rank, before}
use Rattle.omf_place.specs.inside.Placing.{is_common, is_stack, parts}
use Rattle.omf_place.specs.Placed.{greatest, members, leads, alignment_of}
use Rattle.omf_place.specs.inside.Numbered.{IsNumberedFrom}
use Rattle.omf_place.specs.inside.Walk.{IsUnitBounded}
use Rattle.omf_place.proofs.Walks.{All-get, All-filter, All-map, All-sorted, numbered_found}
use Rattle.omf_place.proofs.Leaders.{combines-itself}
use Rattle.omf_place.proofs.Only.{All-unfilter}

abbrev most : {X : Type 0} → (X → ℕ) → ℕ → List X → ℕ
most f acc xs = fold (λ m x. max m (f x)) acc xs

most-above : {X : Type 0} (f : X → ℕ) (acc : ℕ) (xs : List X) → acc ≤ most f acc xs
most-above f acc [] = omega arith
most-above f acc (x ∷ xs) = let h = most-above f (max acc (f x)) xs in omega (arith, h)

pub most-within : {X : Type 0} (f : X → ℕ) (acc n : ℕ) (xs : List X) → acc ≤ n → AllByRecursion (λ x. f x ≤ n) xs
    → most f acc xs ≤ n
most-within f acc n [] h ps = h
most-within f acc n (x ∷ xs) h ps = let p : f x ≤ n = ps.0 in most-within f (max acc (f x)) n xs (omega arith) ps.1

pub most-each : {X : Type 0} (f : X → ℕ) (acc : ℕ) (xs : List X) → AllByRecursion (λ x. f x ≤ most f acc xs) xs
most-each f acc [] = tt
most-each f acc (x ∷ xs) = (let h = most-above f (max acc (f x)) xs in omega (arith, h), most-each f (max acc (f x)) xs)

alignment-small : (s : Standing) → IsStanding s → alignment_of s ≤ 256
alignment-small (Absolute frame offset) h = lit≤ tt
alignment-small (Relocatable alignment kind) h = h.1

alignment-positive : (s : Standing) → IsStanding s → 0 < alignment_of s
alignment-positive (Absolute frame offset) h = lit< tt
alignment-positive (Relocatable alignment kind) h = h.0

unit-bounded : (ss : List Site) → AllByRecursion (λ a. SegmentFits a.segment) ss → (a : Site)
    → slice_get ss a.position ≡ Some a → IsUnitBounded ss a
unit-bounded ss sound a at =
    let own : SegmentFits a.segment = All-get (λ b. SegmentFits b.segment) ss a.position a sound at in
    let al = alignment_of a.segment.standing in
    let big = greatest (λ b. alignment_of b.segment.standing) (members ss a) in
    let long = greatest (λ b. b.segment.length) (members ss a) in
    let al1 : 0 < al = alignment-positive a.segment.standing own.standing in
    let al2 : al ≤ 256 = alignment-small a.segment.standing own.standing in
    let big1 : al ≤ big = All-get (λ b. combines a b ≡ true → alignment_of b.segment.standing ≤ big) ss a.position a
    (All-unfilter (λ b. alignment_of b.segment.standing ≤ big) (combines a) ss
    (most-each (λ (b : Site). alignment_of b.segment.standing) 0 (members ss a))) at (combines-itself a) in
    let big2 : big ≤ 256 = most-within (λ (b : Site). alignment_of b.segment.standing) 0 256 (members ss a) (lit≤ tt)
    (All-filter (λ b. alignment_of b.segment.standing ≤ 256) (combines a) ss
    (All-map (λ b. SegmentFits b.segment) (λ b. alignment_of b.segment.standing ≤ 256) ss
    (λ b h. alignment-small b.segment.standing h.standing) sound)) in
    let long1 : long ≤ 65536 = most-within (λ (b : Site). b.segment.length) 0 65536 (members ss a) (lit≤ tt)
    (All-filter (λ b. b.segment.length ≤ 65536) (combines a) ss
    (All-map (λ b. SegmentFits b.segment) (λ b. b.segment.length ≤ 65536) ss (λ b h. h.length) sound)) in
    let own1 : a.segment.length ≤ 65536 = own.length in
    record {
      positive = elim (is_common a) as (λ c. 0 < cond c big (cond (is_stack a && not (leads ss a)) 1 al)) [
        | true ↦ omega arith
        | false ↦ elim (is_stack a && not (leads ss a)) as (λ c. 0 < cond c 1 al) [ true ↦ lit< tt | false ↦ al1 ]
      ];
      alignment = elim (is_common a) as (λ c. cond c big (cond (is_stack a && not (leads ss a)) 1 al) ≤ 256) [
        | true ↦ big2
        | false ↦ elim (is_stack a && not (leads ss a)) as (λ c. cond c 1 al ≤ 256) [ true ↦ lit≤ tt | false ↦ al2 ]
      ];
      length = elim (is_common a) as (λ c. cond c long a.segment.length ≤ 65536) [ true ↦ long1 | false ↦ own1 ];
    }

pub units-bounded : (ss : List Site) → IsNumberedFrom 0 ss → AllByRecursion (λ a. SegmentFits a.segment) ss
    → AllByRecursion (IsUnitBounded ss) (placement_order ss)
units-bounded ss numbered sound =
    All-sorted (λ a b. before (rank ss a) (rank ss b)) (IsUnitBounded ss) (parts ss)
    (All-filter (IsUnitBounded ss) is_part ss
    (All-map (λ a. slice_get ss a.position ≡ Some a) (IsUnitBounded ss) ss (unit-bounded ss sound)
    (numbered_found ss numbered)))
