-- The addresses in the spans are those of the segments.
use Rattle.std.proofs.Common.{◌≡◌, ℕ, ◌+◌, ◌<◌, List, [], ◌∷◌, map, length, drop, get_or, refl, ap, sym, ◌∙◌, arith}
use Rattle.std.proofs.lemmas.Option.{slice_get-get_or}
use Rattle.omf_place.specs.declared.spans.SegmentSpan.{SegmentSpan}
use Rattle.omf_place.specs.inside.Numbered.{IsNumberedFrom}
use Rattle.omf_place.specs.Parts.{Site}
use Rattle.omf_place.specs.Placed.{address_of}
use Rattle.omf_place.specs.inside.Spans.{addresses_in, span_of}
use Rattle.omf_place.proofs.InputLists.{drop-at}
use Rattle.omf_place.proofs.KeyPlaces.{map_two}

drop_past : {X : Type 0} (n : ℕ) (xs : List X) → n ≡ length xs → drop n xs ≡ []
drop_past n [] e = rw e refl
drop_past n (x ∷ xs) e = rw e (drop_past (length xs) xs refl)

pub by_position : (A : List ℕ) (p : ℕ) (xs : List Site) → IsNumberedFrom p xs → length A ≡ p + length xs
    → map (λ a. address_of A a) xs ≡ drop p A
by_position A p [] n e = sym (drop_past p A (omega arith))
by_position A p (x ∷ xs) n e =
    let h : p < length A = omega arith in
    let here : address_of A x ≡ get_or A p 0 = ap (λ k. get_or A k 0) n.0 in
    ap (λ y. y ∷ map (λ a. address_of A a) xs) here
    ∙ ap (λ ys. get_or A p 0 ∷ ys) (by_position A (p + 1) xs n.1 (omega arith))
    ∙ sym (drop-at p A (get_or A p 0) (slice_get-get_or A p 0 h))

pub addresses_are : (ss : List Site) (A : List ℕ) (spans : List SegmentSpan) → IsNumberedFrom 0 ss
    → length A ≡ length ss → spans ≡ map (span_of ss A) ss → addresses_in spans ≡ A
addresses_are ss A spans numbered len is =
    ap addresses_in is ∙ map_two (span_of ss A) (λ (s : SegmentSpan). s.address) ss
    ∙ by_position A 0 ss numbered (omega (arith, len))
