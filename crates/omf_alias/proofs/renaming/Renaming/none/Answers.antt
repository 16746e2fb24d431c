use Rattle.std.proofs.Common.{[], refl, sym}
use Rattle.omf_alias.specs.Layered.{both_said}
use Rattle.omf_alias.proofs.Walks.{meaning-end}
use Rattle.omf_alias.proofs.renaming.Renaming.none.Goals as goal

pub invariant_of-result-clause-means : goal.invariant_of-result-clause-means
invariant_of-result-clause-means c = λ name. sym (meaning-end (both_said c.args.names [] []) name refl)
