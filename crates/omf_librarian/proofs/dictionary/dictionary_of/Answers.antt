use Rattle.std.proofs.Common.{◌≡◌, ℕ, ◌+◌, ◌-◌, ◌*◌, List, length, map, take, drop, get_or, Some, None, sym, ap, ◌∙◌}
use Rattle.std.proofs.Common.{refl, arith}
use Rattle.omf_librarian.specs.Entering.{dictionary_of, filled, first_filled, primes}
use Rattle.std.specs.Option.{option_map}
use Rattle.omf_librarian.specs.inside.Views.{entry_view, items_of}
use Rattle.omf_librarian.proofs.Filling.{primes_hit, primes_miss, primes_none, size_in}
use Rattle.omf_librarian.proofs.Lists.{prime_bounds}
use Rattle.omf_librarian.proofs.dictionary.dictionary_of.Goals as goal

pub loop-blocks-init : goal.loop-blocks-init
unfolding dictionary_of
loop-blocks-init g c = refl

pub filled-requires-clause-some : goal.filled-requires-clause-some
unfolding primes
filled-requires-clause-some g c = (prime_bounds c.loop-blocks.blocks-index c.loop-blocks-test.true).0

pub filled-requires-clause-few : goal.filled-requires-clause-few
unfolding primes
filled-requires-clause-few g c = (prime_bounds c.loop-blocks.blocks-index c.loop-blocks-test.true).1

pub returns-in-Some-clause-said : goal.returns-in-Some-clause-said
unfolding primes
returns-in-Some-clause-said g c =
    primes_hit c.loop-blocks.blocks-index (map entry_view c.args.entries.now) c.in-Some.dictionary.items
    c.loop-blocks-test.true c.loop-blocks.invariant
    (sym c.in_ok-dictionary.ensures.said ∙ ap (λ o. option_map items_of o) c.in-Some.is)

pub loop-blocks-preserved : goal.loop-blocks-preserved
unfolding primes
loop-blocks-preserved g c =
    primes_miss c.loop-blocks.blocks-index (map entry_view c.args.entries.now)
    c.loop-blocks-test.true c.loop-blocks.invariant
    (sym c.in_ok-dictionary.ensures.said ∙ ap (λ o. option_map items_of o) c.in_default.is)

pub returns-clause-said : goal.returns-clause-said
unfolding primes
returns-clause-said g c =
    primes_none c.loop-blocks.blocks-index (map entry_view c.args.entries.now) c.loop-blocks-test.false
    c.loop-blocks.invariant

pub returns-in-Some-clause-size : goal.returns-in-Some-clause-size
unfolding primes
returns-in-Some-clause-size g c = omega (
  arith,
  (prime_bounds c.loop-blocks.blocks-index c.loop-blocks-test.true).1,
  size_in _ c.in_ok-dictionary.field-0 c.in-Some.dictionary c.in_ok-dictionary.ensures.size c.in-Some.is,
)
