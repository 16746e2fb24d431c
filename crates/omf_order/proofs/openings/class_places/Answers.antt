use Rattle.std.proofs.Common.{◌≡◌, ℕ, List, IfOk, ◌∙◌, subst, refl}
use Rattle.omf_module.specs.declared.lookups.Segment.{Segment}
use Rattle.omf_module.specs.Seen.{segment_seen}
use Rattle.omf_order.specs.Segments.{same_class}
use Rattle.omf_order.proofs.FirstMet.{places_of}
use Rattle.omf_order.proofs.openings.class_places.Goals as goal

pub returns : goal.returns
returns g c =
    subst (λ (e : List ℕ). IfOk c.first_places.result (λ v. v.items ≡ e))
    (places_of _ (λ (s : Segment). s.class) segment_seen same_class (λ x y. refl) c.deref.result.now
    c.deref-2.result.now c.args.asked.now c.args.segments.now
    (c.deref.ensures.value ∙ c.in_ok-asked_keys.ensures) (c.deref-2.ensures.value ∙ c.in_ok-keys.ensures))
    c.first_places.ensures
