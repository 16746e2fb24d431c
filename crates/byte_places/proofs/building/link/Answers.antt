use Rattle.std.proofs.Common.{◌≡◌, ◌-◌, ◌+◌, ◌<◌, length, arith, length-set, ◌∙◌, subst, sym}
use Rattle.byte_places.specs.Chains.{AreLinked}
use Rattle.byte_places.proofs.Linking.{linked-more}
use Rattle.byte_places.proofs.building.link.Goals as goal

pub loop-place-preserved : goal.loop-place-preserved
loop-place-preserved c =
    let loop = c.loop-place in
    let back : loop.place - 1 + 1 ≡ loop.place = omega (arith, c.loop-place-test.true) in
    let inside : loop.place - 1 < length c.args.image.now - 1 =
    omega (arith, c.loop-place-test.true, loop.invariant.within) in
    record {
      counts = length-set loop.counts c.word_of-word.result c.saturating_add.result ∙ loop.invariant.counts;
      within = omega (arith, loop.invariant.within);
      linked = linked-more c.args.image.now loop.first loop.next (loop.place - 1) c.word_of-word.result inside
          c.word_of-word.ensures.small c.word_of-word.ensures.word
          (subst (λ p. AreLinked c.args.image.now p loop.first loop.next) (sym back) loop.invariant.linked);
    }
