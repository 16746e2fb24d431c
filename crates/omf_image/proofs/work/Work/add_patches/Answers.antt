use Rattle.std.proofs.Common.{◌∙◌, ◌++◌, ◌∷◌, [], List, sym, ap, subst}
use Rattle.std.proofs.lemmas.List.{append_assoc}
use Rattle.omf_image.specs.declared.patch.Patch.{Patch}
use Rattle.omf_image.specs.inside.Lookups.{listed}
use Rattle.omf_image.specs.inside.States.{state, Holds}
use Rattle.omf_image.proofs.work.Work.add_patches.Goals as goal

pub returns-in-Some-clause-holds : goal.returns-in-Some-clause-holds
returns-in-Some-clause-holds g c bytes base ps h =
    subst (λ (l : List Patch). Holds c.args.start bytes base (state c.add_patch-in-Some.new.self) l)
    (append_assoc ps (c.args.first ∷ []) (c.in-Some.second ∷ [])
    ∙ ap (λ o. ps ++ listed c.args.first o) (sym c.in-Some.is))
    (c.add_patch-in-Some.ensures.holds bytes base (ps ++ c.args.first ∷ []) (c.add_patch.ensures.holds bytes base ps h))

pub returns-in_default-clause-holds : goal.returns-in_default-clause-holds
returns-in_default-clause-holds g c bytes base ps h =
    subst (λ (l : List Patch). Holds c.args.start bytes base (state c.add_patch.new.self) l)
    (ap (λ o. ps ++ listed c.args.first o) (sym c.in_default.is))
    (c.add_patch.ensures.holds bytes base ps h)
