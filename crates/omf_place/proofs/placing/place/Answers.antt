use Rattle.std.proofs.Common.{◌≡◌, Some, None, IfSome, ap, map, rules, subst, sym, ◌∙◌}
use Rattle.std.specs.List.{AllByRecursion}
use Rattle.std.specs.Option.{option_or}
use Rattle.omf_module.specs.Sound.{SegmentFits}
use Rattle.omf_place.specs.Bounded.{IsBounded}
use Rattle.omf_place.specs.Faults.{PlacementFault, segment_fault}
use Rattle.omf_place.specs.inside.Steps.{later_fault, size_fault}
use Rattle.omf_place.specs.Layout.{layout_at}
use Rattle.omf_place.specs.Placed.{IsPlaced}
use Rattle.omf_place.specs.inside.Placing.{IsFirstFault, IsOnlyLayout, IsOnlyPlacement}
use Rattle.omf_place.specs.Parts.{placement_order, sites}
use Rattle.omf_place.specs.inside.Ranks.{rank}
use Rattle.omf_place.specs.Said.{said}
use Rattle.omf_place.specs.inside.Numbered.{IsNumberedFrom}
use Rattle.omf_place.specs.inside.Sites.{sites_view}
use Rattle.omf_place.specs.inside.Spans.{AreSpans, addresses_in}
use Rattle.omf_place.proofs.Bounding.{bounded}
use Rattle.omf_place.proofs.Ended.{early-fault, late-fault, only-layout}
use Rattle.omf_place.proofs.Results.{IfErr-map, IfOk-both, IfOk-map, IfSome-map}
use Rattle.omf_place.proofs.placing.place.Goals as goal

pub start_parts-requires-clause-numbered : goal.start_parts-requires-clause-numbered
start_parts-requires-clause-numbered g c =
    subst (λ ss. IsNumberedFrom 0 (sites_view ss)) (sym c.deref.ensures.value) c.in_ok-sites.ensures.numbered

pub start_parts-requires-clause-sound : goal.start_parts-requires-clause-sound
start_parts-requires-clause-sound g c =
    subst (λ ss. AllByRecursion (λ a. SegmentFits a.segment) (sites_view ss)) (sym c.deref.ensures.value)
    c.in_ok-sites.ensures.sound

pub check_segments-requires-clause-numbered : goal.check_segments-requires-clause-numbered
check_segments-requires-clause-numbered g c =
    subst (λ ss. IsNumberedFrom 0 (sites_view ss)) (sym c.deref-2.ensures.value) c.in_ok-sites.ensures.numbered

pub check_segments-requires-clause-order : goal.check_segments-requires-clause-order
check_segments-requires-clause-order g c =
    subst (λ ss. c.in_ok-started.started.ranks.items ≡ map (rank (sites_view ss)) (placement_order (sites_view ss)))
    (c.deref.ensures.value ∙ sym c.deref-2.ensures.value) c.in_ok-started.ensures.order

pub check_segments-requires-clause-spans : goal.check_segments-requires-clause-spans
check_segments-requires-clause-spans g c =
    subst (λ ss. AreSpans (sites_view ss) c.in_ok-started.started.spans.items)
    (c.deref.ensures.value ∙ sym c.deref-2.ensures.value) c.in_ok-started.ensures.spans

pub check_segments-requires-clause-small : goal.check_segments-requires-clause-small
check_segments-requires-clause-small g c = c.in_ok-started.ensures.small

pub place_started-requires-clause-numbered : goal.place_started-requires-clause-numbered
place_started-requires-clause-numbered g c =
    subst (λ ss. IsNumberedFrom 0 (sites_view ss)) (sym c.deref-3.ensures.value) c.in_ok-sites.ensures.numbered

pub place_started-requires-clause-sound : goal.place_started-requires-clause-sound
place_started-requires-clause-sound g c =
    subst (λ ss. AllByRecursion (λ a. SegmentFits a.segment) (sites_view ss)) (sym c.deref-3.ensures.value)
    c.in_ok-sites.ensures.sound

pub place_started-requires-clause-order : goal.place_started-requires-clause-order
place_started-requires-clause-order g c =
    subst (λ ss. c.in_ok-started.started.ranks.items ≡ map (rank (sites_view ss)) (placement_order (sites_view ss)))
    (c.deref.ensures.value ∙ sym c.deref-3.ensures.value) c.in_ok-started.ensures.order

pub place_started-requires-clause-spans : goal.place_started-requires-clause-spans
place_started-requires-clause-spans g c =
    subst (λ ss. AreSpans (sites_view ss) c.in_ok-started.started.spans.items)
    (c.deref.ensures.value ∙ sym c.deref-3.ensures.value) c.in_ok-started.ensures.spans

pub place_started-requires-clause-made : goal.place_started-requires-clause-made
place_started-requires-clause-made g c = ap sites_view c.deref-3.ensures.value ∙ c.in_ok-sites.ensures.made

pub place_started-requires-clause-placed : goal.place_started-requires-clause-placed
place_started-requires-clause-placed g c =
    subst
    (λ ss. IsPlaced (sites_view ss) (addresses_in c.in_ok-started.started.spans.items) c.in_ok-started.started.size)
    (c.deref.ensures.value ∙ sym c.deref-3.ensures.value) c.in_ok-started.ensures.placed

pub place_started-requires-clause-size : goal.place_started-requires-clause-size
place_started-requires-clause-size g c = c.in_ok-check_segments.ensures.size

pub returns-in_err-check_segments-clause-fault : goal.returns-in_err-check_segments-clause-fault
returns-in_err-check_segments-clause-fault g c =
    let program = c.args.modules.now in
    let A = addresses_in c.in_ok-started.started.spans.items in
    let size = c.in_ok-started.started.size in
    let started : sites_view c.deref.result.now ≡ sites program =
    ap sites_view c.deref.ensures.value ∙ c.in_ok-sites.ensures.made in
    let checked : sites_view c.deref-2.result.now ≡ sites program =
    ap sites_view c.deref-2.ensures.value ∙ c.in_ok-sites.ensures.made in
    let placed : IsPlaced (sites program) A size =
    subst (λ ss. IsPlaced ss A size) started c.in_ok-started.ensures.placed in
    let only : IsOnlyPlacement (sites program) A size =
    subst (λ ss. IsOnlyPlacement ss A size) started c.in_ok-started.ensures.only in
    let early = IfSome-map _ (IsFirstFault c.args.names program) _
    (λ f h.
    early-fault c.args.names program A size placed only f
    (subst (λ ss. option_or (segment_fault ss A) (size_fault size) ≡ Some f) checked h))
    c.in_err-check_segments.ensures.fault in
    search rules

pub returns-clause-layout : goal.returns-clause-layout
returns-clause-layout g c =
    let program = c.args.modules.now in
    let A = addresses_in c.in_ok-started.started.spans.items in
    let size = c.in_ok-started.started.size in
    let started : sites_view c.deref.result.now ≡ sites program =
    ap sites_view c.deref.ensures.value ∙ c.in_ok-sites.ensures.made in
    let checked : sites_view c.deref-2.result.now ≡ sites program =
    ap sites_view c.deref-2.ensures.value ∙ c.in_ok-sites.ensures.made in
    let placed : IsPlaced (sites program) A size =
    subst (λ ss. IsPlaced ss A size) started c.in_ok-started.ensures.placed in
    let only : IsOnlyPlacement (sites program) A size =
    subst (λ ss. IsOnlyPlacement ss A size) started c.in_ok-started.ensures.only in
    let short : segment_fault (sites program) A ≡ None =
    subst (λ ss. segment_fault ss A ≡ None) checked c.in_ok-check_segments.ensures.segments in
    IfOk-both (later_fault c.args.names program A ≡ None) (λ l. l ≡ layout_at c.args.names program A size)
    (IsOnlyLayout c.args.names program) c.place_started.result
    (λ l none e. only-layout c.args.names program A size placed only short c.in_ok-check_segments.ensures.size none l e)
    c.place_started.ensures.apart c.place_started.ensures.layout

pub returns-clause-bounded : goal.returns-clause-bounded
returns-clause-bounded g c =
    let program = c.args.modules.now in
    let A = addresses_in c.in_ok-started.started.spans.items in
    let size = c.in_ok-started.started.size in
    let started : sites_view c.deref.result.now ≡ sites program =
    ap sites_view c.deref.ensures.value ∙ c.in_ok-sites.ensures.made in
    let checked : sites_view c.deref-2.result.now ≡ sites program =
    ap sites_view c.deref-2.ensures.value ∙ c.in_ok-sites.ensures.made in
    let placed : IsPlaced (sites program) A size =
    subst (λ ss. IsPlaced ss A size) started c.in_ok-started.ensures.placed in
    let short : segment_fault (sites program) A ≡ None =
    subst (λ ss. segment_fault ss A ≡ None) checked c.in_ok-check_segments.ensures.segments in
    IfOk-map (λ l. l ≡ layout_at c.args.names program A size) (IsBounded program) c.place_started.result
    (λ l e. bounded c.args.names program A size placed short c.in_ok-check_segments.ensures.size l e)
    c.place_started.ensures.layout

pub returns-clause-fault : goal.returns-clause-fault
returns-clause-fault g c =
    let program = c.args.modules.now in
    let A = addresses_in c.in_ok-started.started.spans.items in
    let size = c.in_ok-started.started.size in
    let started : sites_view c.deref.result.now ≡ sites program =
    ap sites_view c.deref.ensures.value ∙ c.in_ok-sites.ensures.made in
    let checked : sites_view c.deref-2.result.now ≡ sites program =
    ap sites_view c.deref-2.ensures.value ∙ c.in_ok-sites.ensures.made in
    let placed : IsPlaced (sites program) A size =
    subst (λ ss. IsPlaced ss A size) started c.in_ok-started.ensures.placed in
    let only : IsOnlyPlacement (sites program) A size =
    subst (λ ss. IsOnlyPlacement ss A size) started c.in_ok-started.ensures.only in
    let short : segment_fault (sites program) A ≡ None =
    subst (λ ss. segment_fault ss A ≡ None) checked c.in_ok-check_segments.ensures.segments in
    IfErr-map _ (λ e. IfSome (said e) (IsFirstFault c.args.names program)) c.place_started.result
    (λ e h.
    IfSome-map (λ (f : PlacementFault). later_fault c.args.names program A ≡ Some f) (IsFirstFault c.args.names program)
    (said e)
    (λ f is. late-fault c.args.names program A size placed only short c.in_ok-check_segments.ensures.size f is) h)
    c.place_started.ensures.fault
