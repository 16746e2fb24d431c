use Rattle.std.proofs.Common.{◌∙◌, refl}
use Rattle.omf_order.proofs.Selecting.{listed_place}
use Rattle.omf_order.proofs.keys.listed_key.Goals as goal

pub returns : goal.returns
returns g c =
    (rw (c.first.ensures, c.first-2.ensures) at c.min.ensures)
    ∙ listed_place _ (λ x y. refl) c.args.selectors.now c.args.part.now
