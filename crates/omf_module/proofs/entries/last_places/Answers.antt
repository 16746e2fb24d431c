use Rattle.std.proofs.Common.{ap, ◌∙◌, arith}
use Rattle.omf_module.specs.inside.Store.{last_piece}
use Rattle.omf_module.proofs.entries.last_places.Goals as goal

pub returns-in-Some-clause-last : goal.returns-in-Some-clause-last
returns-in-Some-clause-last g c = c.places.ensures ∙ ap last_piece c.in-Some.ensures.value

pub returns-in-None-clause-inside : goal.returns-in-None-clause-inside
returns-in-None-clause-inside g c = λ bytes places all. omega arith
