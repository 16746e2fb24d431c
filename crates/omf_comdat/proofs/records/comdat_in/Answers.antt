use Rattle.std.proofs.Common.{sym, subst}
use Rattle.omf_frame.specs.Lending.{plain_frame}
use Rattle.omf_extended.specs.View.{extended_view}
use Rattle.omf_library.specs.Names.{texts}
use Rattle.omf_comdat.specs.Comdats.{IsIn}
use Rattle.omf_comdat.proofs.Finding.{finds}
use Rattle.omf_comdat.proofs.records.comdat_in.Goals as goal

pub returns-in-Ok : goal.returns-in-Ok
returns-in-Ok g c =
    let listed = texts c.args.listed.now in
    let frame = plain_frame c.args.frame.now in
    subst (IsIn listed frame) (sym c.found.ensures) (finds listed frame (extended_view c.in-Ok.said) c.in-Ok.ensures)
