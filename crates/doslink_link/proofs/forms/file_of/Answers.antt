use Rattle.std.proofs.Common.{subst, sym}
use Rattle.doslink_link.specs.Forms.{Forms, IsFormed}
use Rattle.doslink_link.proofs.Forming.{as_linked}
use Rattle.doslink_link.proofs.forms.file_of.Goals as goal

pub returns-in-None : goal.returns-in-None
returns-in-None g c names modules linked =
    let file = c.args.exe.items in
    subst (λ o. IsFormed o names modules c.args.report.now file) (sym c.in-None.is)
    (as_linked names modules c.args.report.now file linked)

pub returns-in-Some : goal.returns-in-Some
returns-in-Some g c names modules linked =
    subst (λ o. Forms (λ file. file.items) o names modules c.args.report.now c.file_in.result) (sym c.in-Some.is)
    (c.file_in.ensures names modules linked)
