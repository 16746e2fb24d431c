use Rattle.std.proofs.Common.{ap, map, ◌∙◌, arith}
use Rattle.omf_alias.proofs.Ways.{longer-ways}
use Rattle.omf_alias.specs.Lent.{aliases_said}
use Rattle.omf_alias.specs.inside.Ends.{twice, way_said}
use Rattle.omf_alias.proofs.ends.long_ways.Goals as goal

pub loop-steps-preserved : goal.loop-steps-preserved
loop-steps-preserved g c =
    let inv = c.loop-steps.invariant in
    let sum = c.saturating_add-steps.ensures in (
      omega (arith, inv.0, sum),
      longer-ways (record { names = c.args.names; aliases = aliases_said c.args.aliases.now }) c.loop-steps.steps _
          c.loop-steps.ways.items c.in_ok-ways-2.ways.items inv.1
          (c.in_ok-ways-2.ensures
          ∙ ap (λ w. map (twice c.args.names (map way_said w)) (map way_said w)) c.deref.ensures.value) (omega (arith, sum)),
    )

pub loop-steps-smaller : goal.loop-steps-smaller
loop-steps-smaller g c =
    omega (arith, c.loop-steps.invariant.0, c.saturating_add-steps.ensures, c.loop-steps-test.true)
