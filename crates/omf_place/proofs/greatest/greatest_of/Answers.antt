use Rattle.std.proofs.Common.{ap, ◌∙◌, arith, length, map}
use Rattle.std.proofs.lemmas.List.{length-map}
use Rattle.omf_place.specs.inside.Greatest.{CanAnswer, HoldsGreatest, answer}
use Rattle.omf_place.specs.inside.Keys.{segment_place}
use Rattle.omf_place.specs.inside.Sites.{sites_view}
use Rattle.omf_place.proofs.Measuring.{All-site, places_inside, holds}
use Rattle.omf_place.proofs.SiteLists.{take-all}
use Rattle.omf_place.proofs.Results.{IfOk-map}
use Rattle.omf_place.proofs.greatest.greatest_of.Goals as goal

pub of-requires : goal.of-requires
of-requires g c =
    All-site (CanAnswer c.args.asked) c.args.sites.now c.loop-segment.segment-index _ c.requires.asked
    c.loop-segment-test.true

pub greatest_by_first-requires-clause-same : goal.greatest_by_first-requires-clause-same
greatest_by_first-requires-clause-same g c =
    let ss = sites_view c.args.sites.now in
    omega (
      arith,
      ap length (c.deref.ensures.value ∙ c.loop-segment.invariant
          ∙ ap (λ xs. map (answer c.args.asked) (sites_view xs))
          (take-all c.loop-segment.segment-index c.args.sites.now c.loop-segment-test.false)),
      length-map ss (answer c.args.asked),
      ap length c.requires.places,
      length-map ss (segment_place ss),
    )

pub greatest_by_first-requires-clause-within : goal.greatest_by_first-requires-clause-within
greatest_by_first-requires-clause-within g c =
    places_inside c.args.sites.now c.args.places.now c.requires.numbered c.requires.places

pub returns-clause-each : goal.returns-clause-each
returns-clause-each g c =
    let ss = sites_view c.args.sites.now in
    let f = answer c.args.asked in
    IfOk-map _ (λ v. HoldsGreatest ss f v.items) c.greatest_by_first.result
    (λ v each.
    holds c.args.sites.now c.args.places.now c.requires.numbered c.requires.places f c.deref.result.now v.items
    (c.deref.ensures.value ∙ c.loop-segment.invariant
    ∙ ap (λ xs. map f (sites_view xs))
    (take-all c.loop-segment.segment-index c.args.sites.now c.loop-segment-test.false)) each)
    c.greatest_by_first.ensures.each
