use Rattle.std.proofs.Common.{◌-◌, ◌≤◌, length}
use Rattle.omf_alias.specs.Lent.{aliases_said}
use Rattle.omf_alias.specs.inside.Ends.{AreWays}
use Rattle.omf_alias.proofs.ends.long_ways.Given as goal

abbrev pub invariant-loop-steps : goal.invariant-loop-steps
invariant-loop-steps g l =
    (1 ≤ l.steps) × AreWays (record { names = l.names; aliases = aliases_said l.aliases }) l.steps l.ways.items

abbrev pub decreases-loop-steps : goal.decreases-loop-steps
decreases-loop-steps g l = length l.aliases - l.steps
