use Rattle.std.proofs.Common.{◌∙◌, ◌&&◌, ◌∷◌, [], Bool, sym, ap}
use Rattle.omf_image.specs.inside.Patches.{all_clear}
use Rattle.omf_image.specs.inside.Lookups.{listed}
use Rattle.omf_image.proofs.Touched.{pointer_clear}
use Rattle.omf_image.proofs.Holding.{marked_same}
use Rattle.omf_image.proofs.work.Work.is_pair_clear.Goals as goal

pub returns-in-Some : goal.returns-in-Some
returns-in-Some g c earlier m =
    let p = c.args.first in
    let q = c.in-Some.second in
    ap (λ (b : Bool). b && c.is_clear.result)
    (c.is_clear-clear.ensures earlier (marked_same _ _ _ _ earlier c.deref.ensures.value c.deref-2.ensures.value m))
    ∙ ap (λ (b : Bool). all_clear earlier (p ∷ []) && b)
    (c.is_clear.ensures earlier
    (marked_same _ _ _ _ earlier c.deref-in-Some.ensures.value c.deref-in-Some-2.ensures.value m))
    ∙ sym (pointer_clear earlier p q)
    ∙ ap (λ o. all_clear earlier (listed p o)) (sym c.in-Some.is)
