-- The segments that stand are those of the module, and begin in the image.
use Rattle.std.proofs.Common.{ℕ, ◌<◌, List, [], All, length, map, take, filter, is_some, nat_le, Some, None}
use Rattle.std.proofs.Common.{Option, arith, subst}
use Rattle.std.specs.Option.{unwrap_or}
use Rattle.std.specs.List.{range_with_len}
use Rattle.std.proofs.lemmas.Bool.{cond_both}
use Rattle.std.proofs.lemmas.List.Elements.{All-nil, All-take, All-filter, All-map}
use Rattle.std.proofs.lemmas.List.FromFn.{length-range_with_len, get_or-range_with_len}
use Rattle.omf_module.specs.Module.{Module}
use Rattle.byte_places.specs.Places.{places}
use Rattle.byte_places.specs.Places as spots
use Rattle.omf_match.specs.Pattern.{pattern_of}
use Rattle.omf_match.specs.Matching.{segment_alignment, segment_stands, stand, stands}
use Rattle.omf_match.specs.Places.{IsInside}
use Rattle.omf_match.proofs.Texts.{all-counted}

-- the places of a pattern
places-inside : (pattern : List (Option ℕ)) (alignment : ℕ) (image : List ℕ) (limit : ℕ)
    → All (λ p. p < length image) (take limit (places pattern alignment image))
places-inside pattern alignment image limit =
    All-take (λ p. p < length image) limit (places pattern alignment image)
    (All-filter (spots.stands pattern alignment image) (λ p. p < length image) (range_with_len 0 (length image))
    (λ k d h. let within : k < length image =
    subst (λ n. k < n) (length-range_with_len 0 (length image)) h in
    let is = get_or-range_with_len 0 (length image) k d within in omega (arith, within, is)))

-- those of a segment
pub segment-inside : (m : Module) (image : List ℕ) (segment : ℕ) → segment < length m.segments
    → All (IsInside m image) (segment_stands m image segment)
segment-inside m image segment h =
    let found = take 16 (places (pattern_of m segment) (segment_alignment m segment) image) in
    cond_both (nat_le 8 (length (filter is_some (pattern_of m segment)))) (Some found) None
    (λ (o : Option (List ℕ)). All (IsInside m image) (map (stand segment) (unwrap_or o [])))
    (λ _. All-map (IsInside m image) (stand segment) found
    (λ k d inside. (h, places-inside (pattern_of m segment) (segment_alignment m segment) image 16 k d inside)))
    (λ _. All-nil (IsInside m image))

-- those of a module
pub stands-inside : (m : Module) (image : List ℕ) → All (IsInside m image) (stands m image)
unfolding stands
stands-inside m image =
    all-counted (IsInside m image) (segment_stands m image) 0 (length m.segments)
    (λ k _ h. segment-inside m image k (omega (arith, h)))
