use Rattle.std.proofs.Common.{◌≡◌, ℕ, ◌≤◌, ◌<◌, List, Some, None, ap, arith, find, nat_lt, subst, sym, ◌∙◌}
use Rattle.std.specs.List.{AllByRecursion}
use Rattle.omf_module.specs.Sound.{SegmentFits}
use Rattle.omf_place.specs.Excess.{segment_excesses}
use Rattle.omf_place.specs.Parts.{sites}
use Rattle.omf_place.specs.declared.spans.SegmentSpan.{SegmentSpan}
use Rattle.omf_place.specs.inside.Numbered.{IsNumberedFrom}
use Rattle.omf_place.specs.inside.Sites.{sites_view}
use Rattle.omf_place.specs.inside.Small.{IsSmall}
use Rattle.omf_place.specs.inside.Spans.{addresses_in}
use Rattle.omf_place.proofs.Excessive.{group-stands, program-stands, segment-stands}
use Rattle.omf_place.proofs.placing.excess.Goals as goal

pub start_parts-requires-clause-numbered : goal.start_parts-requires-clause-numbered
start_parts-requires-clause-numbered g c =
    subst (λ ss. IsNumberedFrom 0 (sites_view ss)) (sym c.deref.ensures.value) c.in_ok-sites.ensures.numbered

pub start_parts-requires-clause-sound : goal.start_parts-requires-clause-sound
start_parts-requires-clause-sound g c =
    subst (λ ss. AllByRecursion (λ a. SegmentFits a.segment) (sites_view ss)) (sym c.deref.ensures.value)
    c.in_ok-sites.ensures.sound

pub first_segment_excess-requires-clause-small : goal.first_segment_excess-requires-clause-small
first_segment_excess-requires-clause-small g c =
    subst (λ (sp : List SegmentSpan). IsSmall (addresses_in sp)) (sym c.deref-4.ensures.value)
    c.in_ok-started.ensures.small

pub returns-in-Some : goal.returns-in-Some
returns-in-Some g c =
    let ss = sites_view c.deref.result.now in
    let A = addresses_in c.in_ok-started.started.spans.items in
    let made : ss ≡ sites c.args.modules.now = ap sites_view c.deref.ensures.value ∙ c.in_ok-sites.ensures.made in
    let first : c.first_segment_excess.result ≡ find (nat_lt 0) (segment_excesses ss A) =
    c.first_segment_excess.ensures
    ∙ ap (λ s. find (nat_lt 0) (segment_excesses (sites_view s) (addresses_in c.deref-4.result.now)))
    (c.deref-2.ensures.value ∙ sym c.deref.ensures.value)
    ∙ ap (λ (sp : List SegmentSpan). find (nat_lt 0) (segment_excesses ss (addresses_in sp))) c.deref-4.ensures.value in
    segment-stands c.args.modules.now ss made A c.in_ok-started.started.size c.in_ok-started.ensures.placed
    c.in_ok-started.ensures.only c.first_segment_excess.result first c.in-Some.bytes c.in-Some.is

pub returns-then-over-gt0 : goal.returns-then-over-gt0
returns-then-over-gt0 g c =
    let ss = sites_view c.deref.result.now in
    let A = addresses_in c.in_ok-started.started.spans.items in
    let made : ss ≡ sites c.args.modules.now = ap sites_view c.deref.ensures.value ∙ c.in_ok-sites.ensures.made in
    let first : c.first_segment_excess.result ≡ find (nat_lt 0) (segment_excesses ss A) =
    c.first_segment_excess.ensures
    ∙ ap (λ s. find (nat_lt 0) (segment_excesses (sites_view s) (addresses_in c.deref-4.result.now)))
    (c.deref-2.ensures.value ∙ sym c.deref.ensures.value)
    ∙ ap (λ (sp : List SegmentSpan). find (nat_lt 0) (segment_excesses ss (addresses_in sp))) c.deref-4.ensures.value in
    program-stands c.args.modules.now ss made A c.in_ok-started.started.size c.in_ok-started.ensures.placed
    c.in_ok-started.ensures.only c.first_segment_excess.result first c.in_default.is c.saturating_sub-over.result
    (omega (arith, c.saturating_sub-over.ensures)) (omega (arith, c.if-over-gt0.true))

pub returns-in-None : goal.returns-in-None
returns-in-None g c =
    let ss = sites_view c.deref.result.now in
    let A = addresses_in c.in_ok-started.started.spans.items in
    let made : ss ≡ sites c.args.modules.now = ap sites_view c.deref.ensures.value ∙ c.in_ok-sites.ensures.made in
    let first : c.first_segment_excess.result ≡ find (nat_lt 0) (segment_excesses ss A) =
    c.first_segment_excess.ensures
    ∙ ap (λ s. find (nat_lt 0) (segment_excesses (sites_view s) (addresses_in c.deref-4.result.now)))
    (c.deref-2.ensures.value ∙ sym c.deref.ensures.value)
    ∙ ap (λ (sp : List SegmentSpan). find (nat_lt 0) (segment_excesses ss (addresses_in sp))) c.deref-4.ensures.value in
    let fits : c.in_ok-started.started.size ≤ 1048560 =
    omega (arith, c.if-over-gt0.false, c.saturating_sub-over.ensures) in
    group-stands c.args.modules.now ss made A c.in_ok-started.started.size c.in_ok-started.ensures.placed
    c.in_ok-started.ensures.only c.first_segment_excess.result first c.in_default.is fits None
    (sym c.in-None.is ∙ c.in_ok-group_excess.ensures)

pub returns : goal.returns
returns g c =
    let ss = sites_view c.deref.result.now in
    let A = addresses_in c.in_ok-started.started.spans.items in
    let made : ss ≡ sites c.args.modules.now = ap sites_view c.deref.ensures.value ∙ c.in_ok-sites.ensures.made in
    let first : c.first_segment_excess.result ≡ find (nat_lt 0) (segment_excesses ss A) =
    c.first_segment_excess.ensures
    ∙ ap (λ s. find (nat_lt 0) (segment_excesses (sites_view s) (addresses_in c.deref-4.result.now)))
    (c.deref-2.ensures.value ∙ sym c.deref.ensures.value)
    ∙ ap (λ (sp : List SegmentSpan). find (nat_lt 0) (segment_excesses ss (addresses_in sp))) c.deref-4.ensures.value in
    let fits : c.in_ok-started.started.size ≤ 1048560 =
    omega (arith, c.if-over-gt0.false, c.saturating_sub-over.ensures) in
    group-stands c.args.modules.now ss made A c.in_ok-started.started.size c.in_ok-started.ensures.placed
    c.in_ok-started.ensures.only c.first_segment_excess.result first c.in_default.is fits (Some c.from.result)
    (ap Some c.from.ensures ∙ sym c.in-Some-2.is ∙ c.in_ok-group_excess.ensures)
