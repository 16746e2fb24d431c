use Rattle.omf_place.specs.Parts.{sites}
use Rattle.omf_place.proofs.CombinedParts.{combines-symm}
use Rattle.omf_place.proofs.Leaders.{combines-itself, combines-trans}
use Rattle.omf_place.proofs.SiteLists.{numbered_sites, one_place}
use Rattle.omf_place.proofs.laws.combining.Goals as goal

pub returns-clause-reflexive : goal.returns-clause-reflexive
returns-clause-reflexive c = combines-itself

pub returns-clause-symmetric : goal.returns-clause-symmetric
returns-clause-symmetric c = λ program a b ha hb. combines-symm (sites program) (numbered_sites program) a b ha hb

pub returns-clause-transitive : goal.returns-clause-transitive
returns-clause-transitive c =
    λ program a b d ha hb hd.
    combines-trans a b d (one_place (sites program) a b ha hb) (one_place (sites program) b d hb hd)
