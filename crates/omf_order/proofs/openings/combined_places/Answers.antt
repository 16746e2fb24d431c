use Rattle.std.proofs.Common.{◌≡◌, ℕ, List, IfOk, ◌∙◌, ap, subst, ◌&&◌}
use Rattle.std.specs.Str.{bytes_eq}
use Rattle.omf_module.specs.Seen.{segment_seen}
use Rattle.omf_order.specs.Segments.{kind_of}
use Rattle.omf_order.specs.inside.Held.{combining, joining, same_key}
use Rattle.omf_order.proofs.FirstMet.{places_of, same_joinings}
use Rattle.omf_order.proofs.openings.combined_places.Goals as goal

pub returns : goal.returns
returns g c =
    subst (λ (e : List ℕ). IfOk c.first_places.result (λ v. v.items ≡ e))
    (places_of _ combining segment_seen same_key
    (λ x y.
    ap (λ b. b && (bytes_eq x.name.now y.name.now && bytes_eq x.class.now y.class.now))
    (same_joinings (joining (kind_of x.standing)) (joining (kind_of y.standing))))
    c.deref.result.now c.deref-2.result.now c.args.asked.now c.args.segments.now
    (c.deref.ensures.value ∙ c.in_ok-asked_keys.ensures) (c.deref-2.ensures.value ∙ c.in_ok-keys.ensures))
    c.first_places.ensures
