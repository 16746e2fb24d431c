use Rattle.std.proofs.Common.{◌≡◌, ◌∙◌, ap, arith, replicate}
use Rattle.omf_place.specs.inside.Steps.{empty}
use Rattle.omf_place.proofs.scopes.Scopes.new.Goals as goal

pub returns : goal.returns
returns g c =
    let e : c.loop.counter ≡ c.args.count = omega (arith, c.loop-test.false, c.loop.auto.counter-end) in
    λ i. record {
      shared = c.new-2.ensures i;
      locals = (c.loop.invariant ∙ ap (λ n. replicate n (empty c.args.names)) e) i;
    }
