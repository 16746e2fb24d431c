use Rattle.std.proofs.Common.{◌∙◌, map, sym, ap, arith}
use Rattle.std.proofs.lemmas.List.{length-map}
use Rattle.std.proofs.lemmas.Result.{err_from_is_err_and}
use Rattle.omf_comdat.specs.Comdats.{records_said}
use Rattle.omf_comdat.specs.Fates.{module_fates}
use Rattle.omf_comdat.specs.inside.Held.{firsts_said}
use Rattle.omf_comdat.proofs.Firsts.{clash-through, modules-clash}
use Rattle.omf_comdat.proofs.fates.comdat_fates.Goals as goal

pub returns-in_err-fates : goal.returns-in_err-fates
returns-in_err-fates g c =
    let p = err_from_is_err_and c.from_residual.result c.from_residual.ensures.1 in
    rw (p.1, p.2)
    (clash-through _ _ _ c.in_err-fates.ensures.fates (λ clash is.
    modules-clash c.args.names (map (λ fates. fates.items) c.loop-records.told.items)
    (firsts_said c.loop-records.standing.firsts.entries) c.args.modules.now c.loop-records.records-index c.len.result
    c.records-item.result _ clash c.loop-records-test.true c.records-item.is
    (omega (arith, c.len.ensures, c.loop-records.told.ok.0, length-map c.loop-records.told.items (λ fates. fates.items)))
    c.loop-records.invariant.all
    (sym (ap (λ rs. module_fates c.args.names c.len.result (firsts_said c.loop-records.standing.firsts.entries)
    (records_said rs)) c.deref.ensures.value) ∙ is)))
