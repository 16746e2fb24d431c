use Rattle.std.proofs.Common.{◌∙◌, sym, ap, ◌++◌, length, arith}
use Rattle.byte_places.specs.Places.{stands}
use Rattle.byte_places.specs.inside.Found.{found_at}
use Rattle.byte_places.proofs.Listing.{below-more, looked-few, first-all, first-many}
use Rattle.byte_places.proofs.finding.places_anywhere.Goals as goal
use Rattle.byte_places.proofs.finding.places_anywhere.Goals.{else-loop-place-test, then-loop-place-test+then-len-search}

pub loop-place-preserved : goal.loop-place-preserved
loop-place-preserved g c =
    let loop = c.loop-place in
    let test = stands c.args.search.pattern.now c.args.search.alignment c.args.image.now in
    let added = c.in_ok-push_where_it_stands.ensures in
    record {
      found = added ∙ ap (λ l. l ++ found_at test loop.place) loop.invariant.found ∙ sym (below-more test loop.place);
      few = looked-few (test loop.place) loop.place c.args.search.limit loop.found.items _ added
          (omega (arith, c.if-len-search.false, c.len.ensures, loop.found.ok));
    }

pub returns : goal.returns
returns g c =
    let loop = c.loop-place in
    let image = c.args.image.now in
    let test = stands c.args.search.pattern.now c.args.search.alignment image in
    let limit = c.args.search.limit in
    elim c.loop-place-test.branch [
      | else-loop-place-test w ↦
          first-all test loop.place (length image) limit loop.found.items loop.invariant.found loop.invariant.few
          loop.auto.place-end (λ q a b. absurd (omega (arith, a, b, w.loop-place-test.false)))
      | then-loop-place-test+then-len-search w ↦
          first-many test loop.place (length image) limit loop.found.items loop.invariant.found loop.invariant.few
          (omega (arith, w.if-len-search.true, w.len.ensures, loop.found.ok)) loop.auto.place-end
    ]
