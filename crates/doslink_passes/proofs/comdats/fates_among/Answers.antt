use Rattle.std.proofs.Common.{IsErr, ap, subst, sym, ◌∙◌}
use Rattle.omf_comdat.specs.Fates as comdat
use Rattle.omf_comdat.specs.Told.{modules_said}
use Rattle.doslink_passes.proofs.Fates.{comdat-fault}
use Rattle.doslink_passes.proofs.Refused.{OnInput-weaker}
use Rattle.doslink_passes.proofs.comdats.fates_among.Goals as goal

pub returns-in-Ok : goal.returns-in-Ok
returns-in-Ok g c = record {
  records = modules_said c.in_ok-records.records.items;
  are_records = c.in_ok-records.ensures;
  decided = ap (λ ms. comdat.fates c.args.names (modules_said ms)) (sym c.deref.ensures.value) ∙ c.in-Ok.ensures;
}

pub returns : goal.returns
returns g c =
    OnInput-weaker c.stop_at_clash.result
    (λ other. (
      modules_said c.in_ok-records.records.items,
      c.in_ok-records.ensures,
      subst (λ ms. IsErr (comdat.fates c.args.names (modules_said ms))) c.deref.ensures.value
          (comdat-fault c.in-Err.fault _ c.in-Err.ensures other),
    ))
    c.stop_at_clash.ensures
