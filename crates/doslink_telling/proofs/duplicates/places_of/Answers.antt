use Rattle.std.proofs.Common.{[], ◌∷◌, ◌++◌, ◌∙◌, ◌&&◌, ap, ap₂, arith, cond, map, nat_eq, subst}
use Rattle.std.proofs.lemmas.List.{take_all}
use Rattle.std.specs.Option.{option_eq}
use Rattle.std.specs.Str.{bytes_eq}
use Rattle.doslink_telling.specs.inside.Duplicates.{IsIndex, is_key_of, occurrence_of, places_at, public_said}
use Rattle.doslink_telling.proofs.Doubled.{index-turn}
use Rattle.doslink_telling.proofs.duplicates.places_of.Goals as goal

pub loop-place-preserved : goal.loop-place-preserved
loop-place-preserved g c = λ k.
    let old = places_at c.loop-place.places k in
    let i = c.loop-place.place in
    index-turn public_said c.args.publics.now i c.index-publics-place.result k old _ c.loop-place-test.true
    (c.loop-place.invariant k)
    (c.in_ok-add_place.ensures k
    ∙ ap₂ (λ o s. old ++ cond (option_eq nat_eq k.owner o && bytes_eq k.spelled.now s)
    (record { place = i; input = c.index-publics-place.result.input } ∷ []) []) c.key_of.ensures.owner
    c.key_of.ensures.spelled
    ∙ ap (λ p. old ++ cond (is_key_of k (public_said p)) (occurrence_of (i, public_said p) ∷ []) [])
    c.index-publics-place.is)

pub returns : goal.returns
returns g c =
    subst (λ ps. IsIndex (map public_said ps) c.loop-place.places)
    (take_all c.loop-place.place c.args.publics.now (omega arith)) c.loop-place.invariant
