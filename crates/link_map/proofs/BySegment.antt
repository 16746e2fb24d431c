-- Lines by their segments, and frames of groups.
use Rattle.std.proofs.Common.{◌≡◌, ℕ, zero, suc, ◌+◌, ◌<◌, ◌≤◌, List, [], ◌∷◌, ◌++◌, length, filter, get_or, Option}
use Rattle.std.proofs.Common.{◌-◌, Bool, true, false, Some, None, slice_get, refl, sym, ap, ap₂, ◌∙◌, append-nil, arith}
use Rattle.std.proofs.lemmas.List.{get_or_default, get_or_past}
use Rattle.std.specs.Prelude.{◌==◌, ◌*◌}
use Rattle.std.specs.List.{enumerate_from, flat_map}
use Rattle.omf_lines.specs.Lines.{is_of}
use Rattle.omf_lines.specs.declared.line.Line.{Line}
use Rattle.omf_module.specs.Module.{Module}
use Rattle.omf_place.specs.Layout.{Layout, ModulePlaces, places_of, segment_position}
use Rattle.omf_place.specs.declared.layout.Position.{Position}
use Rattle.omf_place.specs.declared.layout.Position.TheVariants.{Relocatable}
use Rattle.link_map.specs.Publics.{listed_at}
use Rattle.link_map.specs.inside.Numbers.{framed}
use Rattle.link_map.specs.Numbers.{line_frame, lines_in_segment, lines_in_segments, number_rows, numbers_heading}
use Rattle.link_map.specs.Numbers.{segment_numbers}

flat_map-same : {X Y : Type 0} (f g : X → List Y) → ((x : X) → f x ≡ g x) → (xs : List X)
    → flat_map f xs ≡ flat_map g xs
flat_map-same f g same [] = refl
flat_map-same f g same (x ∷ xs) = ap₂ (λ a b. a ++ b) (same x) (flat_map-same f g same xs)

-- lines of each segment that are the same have the same text
pub sorted-text : (layout : Layout) (file name : List ℕ) (sorted lines : List Line) (input : ℕ) (m : Module)
    → ((segment : ℕ) → filter (is_of segment) sorted ≡ filter (is_of segment) lines)
    → lines_in_segments layout file name sorted (input, m) ≡ lines_in_segments layout file name lines (input, m)
sorted-text layout file name sorted lines input m same =
    flat_map-same (lines_in_segment layout file name sorted input) (lines_in_segment layout file name lines input)
    (λ p. ap (segment_numbers (places_of layout input) (segment_position layout input p.0)
    (numbers_heading file name p.1.name)) (same (p.0 + 1)))
    (enumerate_from 0 m.segments)

-- the item at a place of a list
pub item-at : {X : Type 0} (xs : List X) (i : ℕ) → i < length xs → (x : X) × (slice_get xs i ≡ Some x)
item-at [] i h = absurd (omega (arith, h))
item-at (x ∷ xs) zero h = (x, refl)
item-at (x ∷ xs) (suc i) h = item-at xs i (omega (arith, h))

-- a segment that has lines has a heading, and one without has nothing
pub numbers-some : (places : ModulePlaces) (position : Position) (heading : List ℕ) (lines : List Line)
    → 0 < length lines
    → heading ++ number_rows places position lines ≡ segment_numbers places position heading lines
numbers-some places position heading [] some = absurd (omega (arith, some))
numbers-some places position heading (line ∷ lines) some = refl

pub numbers-none : (places : ModulePlaces) (position : Position) (heading : List ℕ) (lines : List Line) (text : List ℕ)
    → length lines ≡ 0 → text ≡ text ++ segment_numbers places position heading lines
numbers-none places position heading [] text none = sym (append-nil text)
numbers-none places position heading (line ∷ lines) text none = absurd (omega (arith, none))

-- the frame of a group that is one of the module's, and of one that isn't
pub group-there : (places : ModulePlaces) (group : ℕ) (own : Option ℕ) (found : Option ℕ) → 0 < group
    → group ≤ length places.groups → found ≡ get_or places.groups (group - 1) None → found ≡ line_frame places group own
group-there places zero own found some within is = absurd (omega (arith, some))
group-there places (suc before) own found some within is =
    let same : suc before - 1 ≡ before = omega arith in
    is ∙ ap (λ k. get_or places.groups k None) same
    ∙ get_or_default places.groups before None own (omega (arith, within))

pub group-absent : (places : ModulePlaces) (group : ℕ) (own : Option ℕ) → length places.groups < group
    → own ≡ line_frame places group own
group-absent places zero own past = absurd (omega (arith, past))
group-absent places (suc before) own past = sym (get_or_past places.groups before own (omega (arith, past)))

pub not-empty : (n : ℕ) (empty : Bool) → empty ≡ (n == 0) → empty ≡ false → 0 < n
not-empty zero empty is not = let z : true ≡ false = sym is ∙ not in let never : ⊥ = cc in absurd never
not-empty (suc n) empty is not = omega arith

-- an address is listed with its frame as a public is
pub place-frame : (address : ℕ) (frame : Option ℕ)
    → framed address frame ≡ (listed_at [] (Relocatable address frame)).frame
place-frame address None = refl
place-frame address (Some frame) = refl

pub place-offset : (address : ℕ) (frame : Option ℕ)
    → address - 16 * framed address frame ≡ (listed_at [] (Relocatable address frame)).offset
place-offset address None = refl
place-offset address (Some frame) = refl
