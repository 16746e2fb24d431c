use Rattle.std.proofs.Common.{◌≡◌, ◌∙◌, Option, sym, ap}
use Rattle.std.specs.Option.{ok_or}
use Rattle.omf_module.specs.Seen.{external_seen}
use Rattle.omf_place.specs.declared.layout.Position.{Position}
use Rattle.omf_image.specs.Reference.{meant}
use Rattle.omf_image.specs.declared.faults.FixKind.TheVariants.{Unresolved}
use Rattle.omf_image.proofs.reference.external_position.Goals as goal
use Rattle.omf_image.proofs.reference.external_position.Goals.{then-external, else-external}

pub returns-in-Some : goal.returns-in-Some
returns-in-Some g c =
    let is : c.if-external.meant ≡ meant c.args.layout.now c.args.input (external_seen c.args.external) =
    elim c.if-external.branch [
      | then-external w ↦ rw w.if-external.true (w.meant-is ∙ w.local_public-meant.ensures)
      | else-external w ↦ rw w.if-external.false (w.meant-is ∙ w.public-meant.ensures)
    ] in
    ap (λ (m : Option Position). ok_or m Unresolved) (sym c.in-Some.is ∙ is)

pub returns-in-None : goal.returns-in-None
returns-in-None g c =
    let is : c.if-external.meant ≡ meant c.args.layout.now c.args.input (external_seen c.args.external) =
    elim c.if-external.branch [
      | then-external w ↦ rw w.if-external.true (w.meant-is ∙ w.local_public-meant.ensures)
      | else-external w ↦ rw w.if-external.false (w.meant-is ∙ w.public-meant.ensures)
    ] in
    ap (λ (m : Option Position). ok_or m Unresolved) (sym c.in-None.is ∙ is)
