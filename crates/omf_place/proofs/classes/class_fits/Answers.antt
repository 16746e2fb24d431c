use Rattle.std.proofs.Common.{◌≡◌, ◌/◌, List, not, true, ap, subst, sym, ◌∙◌}
use Rattle.std.specs.List.{AllByRecursion}
use Rattle.std.specs.Option.{option_map_or}
use Rattle.omf_module.specs.Sound.{SegmentFits}
use Rattle.omf_place.specs.declared.spans.SegmentSpan.{SegmentSpan}
use Rattle.omf_place.specs.Classes.{class_span}
use Rattle.omf_place.specs.Faults.{is_too_long}
use Rattle.omf_place.specs.Parts.{sites}
use Rattle.omf_place.specs.inside.Numbered.{IsNumberedFrom}
use Rattle.omf_place.specs.inside.Sites.{sites_view}
use Rattle.omf_place.specs.inside.Spans.{addresses_in}
use Rattle.omf_place.proofs.ClassSpans.{told}
use Rattle.omf_place.proofs.classes.class_fits.Goals as goal

pub start_parts-requires-clause-numbered : goal.start_parts-requires-clause-numbered
start_parts-requires-clause-numbered g c =
    subst (λ ss. IsNumberedFrom 0 (sites_view ss)) (sym c.deref.ensures.value) c.in_ok-sites.ensures.numbered

pub start_parts-requires-clause-sound : goal.start_parts-requires-clause-sound
start_parts-requires-clause-sound g c =
    subst (λ ss. AllByRecursion (λ a. SegmentFits a.segment) (sites_view ss)) (sym c.deref.ensures.value)
    c.in_ok-sites.ensures.sound

pub class_span-requires : goal.class_span-requires
class_span-requires g c =
    rw (c.deref-2.ensures.value, c.deref-3.ensures.value, ← c.deref.ensures.value) c.in_ok-started.ensures.spans

pub returns : goal.returns
returns g c =
    let class = c.args.class.now in
    let ss = sites_view c.deref.result.now in
    let A = addresses_in c.in_ok-started.started.spans.items in
    let made : ss ≡ sites c.args.modules.now = ap sites_view c.deref.ensures.value ∙ c.in_ok-sites.ensures.made in
    let span : c.class_span.result ≡ class_span ss A class =
    c.class_span.ensures
    ∙ ap (λ s. class_span (sites_view s) (addresses_in c.deref-3.result.now) class)
    (c.deref-2.ensures.value ∙ sym c.deref.ensures.value)
    ∙ ap (λ (sp : List SegmentSpan). class_span ss (addresses_in sp) class) c.deref-3.ensures.value in
    told c.args.modules.now class ss made A c.in_ok-started.started.size c.in_ok-started.ensures.placed
    c.in_ok-started.ensures.only c.is_in_frame.result
    (c.is_in_frame.ensures ∙ ap (λ o. option_map_or (λ s. not (is_too_long (s.0 / 16) s.1)) o true) span)
