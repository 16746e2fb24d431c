use Rattle.std.proofs.Common.{ℕ, List, map, subst, sym, ap, ◌∙◌}
use Rattle.omf_place.specs.Placed.{IsPlaced}
use Rattle.omf_place.specs.inside.Placing.{IsOnlyPlacement}
use Rattle.omf_place.specs.inside.Sites.{sites_view}
use Rattle.omf_place.specs.inside.Small.{IsSmall}
use Rattle.omf_place.specs.inside.Spans.{span_of}
use Rattle.omf_place.proofs.SpanAddresses.{addresses_are}
use Rattle.omf_place.proofs.placing.start_parts.Goals as goal

pub placement_ranks-requires : goal.placement_ranks-requires
placement_ranks-requires g c = c.deref.ensures.value ∙ c.in_ok-places.ensures

pub place_parts-requires-clause-numbered : goal.place_parts-requires-clause-numbered
place_parts-requires-clause-numbered g c = c.requires.numbered

pub place_parts-requires-clause-sound : goal.place_parts-requires-clause-sound
place_parts-requires-clause-sound g c = c.requires.sound

pub place_parts-requires-clause-order : goal.place_parts-requires-clause-order
place_parts-requires-clause-order g c = c.deref-2.ensures.value ∙ c.in_ok-ranks.ensures

pub place_parts-requires-clause-places : goal.place_parts-requires-clause-places
place_parts-requires-clause-places g c = c.deref-3.ensures.value ∙ c.in_ok-places.ensures

pub segment_spans-requires-clause-numbered : goal.segment_spans-requires-clause-numbered
segment_spans-requires-clause-numbered g c = c.requires.numbered

pub segment_spans-requires-clause-places : goal.segment_spans-requires-clause-places
segment_spans-requires-clause-places g c = c.deref-4.ensures.value ∙ c.in_ok-places.ensures

pub segment_spans-requires-clause-small : goal.segment_spans-requires-clause-small
segment_spans-requires-clause-small g c =
    subst (λ (xs : List ℕ). IsSmall xs) (sym c.deref-5.ensures.value) c.in_ok-placing.ensures.small

pub returns-clause-order : goal.returns-clause-order
returns-clause-order g c = c.in_ok-ranks.ensures

pub returns-clause-spans : goal.returns-clause-spans
returns-clause-spans g c =
    let ss = sites_view c.args.sites.now in
    let are =
    addresses_are ss c.in_ok-placing.placing.addresses.items c.in_ok-spans.spans.items c.requires.numbered
    c.in_ok-placing.ensures.placed.each
    (c.in_ok-spans.ensures ∙ ap (λ (xs : List ℕ). map (span_of ss xs) ss) c.deref-5.ensures.value) in
    c.in_ok-spans.ensures ∙ ap (λ (xs : List ℕ). map (span_of ss xs) ss) (c.deref-5.ensures.value ∙ sym are)

pub returns-clause-placed : goal.returns-clause-placed
returns-clause-placed g c =
    let ss = sites_view c.args.sites.now in
    let are =
    addresses_are ss c.in_ok-placing.placing.addresses.items c.in_ok-spans.spans.items c.requires.numbered
    c.in_ok-placing.ensures.placed.each
    (c.in_ok-spans.ensures ∙ ap (λ (xs : List ℕ). map (span_of ss xs) ss) c.deref-5.ensures.value) in
    subst (λ (xs : List ℕ). IsPlaced ss xs c.in_ok-placing.placing.size) (sym are) c.in_ok-placing.ensures.placed

pub returns-clause-only : goal.returns-clause-only
returns-clause-only g c =
    let ss = sites_view c.args.sites.now in
    let are =
    addresses_are ss c.in_ok-placing.placing.addresses.items c.in_ok-spans.spans.items c.requires.numbered
    c.in_ok-placing.ensures.placed.each
    (c.in_ok-spans.ensures ∙ ap (λ (xs : List ℕ). map (span_of ss xs) ss) c.deref-5.ensures.value) in
    subst (λ (xs : List ℕ). IsOnlyPlacement ss xs c.in_ok-placing.placing.size) (sym are) c.in_ok-placing.ensures.only

pub returns-clause-small : goal.returns-clause-small
returns-clause-small g c =
    let ss = sites_view c.args.sites.now in
    let are =
    addresses_are ss c.in_ok-placing.placing.addresses.items c.in_ok-spans.spans.items c.requires.numbered
    c.in_ok-placing.ensures.placed.each
    (c.in_ok-spans.ensures ∙ ap (λ (xs : List ℕ). map (span_of ss xs) ss) c.deref-5.ensures.value) in
    subst (λ (xs : List ℕ). IsSmall xs) (sym are) c.in_ok-placing.ensures.small
