use Rattle.std.proofs.Common.{◌-◌, ◌∙◌, None, refl, sym}
use Rattle.std.proofs.lemmas.Bool.{not-true}
use Rattle.byte_places.proofs.Agreeing.{refused-at}
use Rattle.byte_places.proofs.finding.is_refuted.Goals as goal

pub returns : goal.returns
returns c h =
    refused-at c.args.pattern.now c.args.image.now c.args.place c.args.refuting (c.args.refuting - c.args.place) None refl
    c.if-refuting-place.false c.if-refuting-image.false c.if-refuting-place-2.false
    (sym c.allows.ensures ∙ not-true c.allows.result h)
