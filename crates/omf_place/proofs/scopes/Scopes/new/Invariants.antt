use Rattle.std.proofs.Common.{◌≡◌, replicate}
use Rattle.omf_place.specs.inside.Steps.{empty}
use Rattle.omf_place.proofs.scopes.Scopes.new.Given as goal

abbrev pub invariant-loop : goal.invariant-loop
invariant-loop g l = l.locals.items ≡ replicate l.counter (empty l.names)
