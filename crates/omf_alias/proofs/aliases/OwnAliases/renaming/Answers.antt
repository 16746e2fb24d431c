use Rattle.std.proofs.Common.{ap, subst, sym, ◌∙◌}
use Rattle.omf_alias.specs.Layered.{said_of}
use Rattle.omf_alias.specs.Lent.{aliases_said}
use Rattle.omf_alias.specs.Meaning.{meaning}
use Rattle.omf_alias.specs.Ordered.{IsByName}
use Rattle.omf_alias.specs.Told.{told}
use Rattle.omf_alias.specs.Layers.{own_through}
use Rattle.omf_alias.proofs.Owned.{own-means}
use Rattle.omf_alias.proofs.aliases.OwnAliases.renaming.Goals as goal

pub invariant_of-result-clause-means : goal.invariant_of-result-clause-means
invariant_of-result-clause-means g c =
    let self = c.args.self.now in
    own-means self.names self.aliases.now c.deref.result.now self.ends.now c.deref-2.result.now self.means
    (λ name. ap (λ l. told self.names l name) c.deref-2.ensures.value ∙ self.own_means name
    ∙ sym (ap (λ l. meaning (own_through (said_of self.names self.aliases.now) (aliases_said l)) name)
    c.deref.ensures.value))

pub invariant_of-result-clause-own_sorted : goal.invariant_of-result-clause-own_sorted
invariant_of-result-clause-own_sorted g c =
    subst (IsByName c.args.self.now.names) (sym c.deref-2.ensures.value) c.args.self.now.own_sorted
