use Rattle.std.proofs.Common.{[], map, ap, subst, ◌∙◌}
use Rattle.std.proofs.lemmas.Result.{IfOk-weaker}
use Rattle.omf_comdat.specs.Comdats.{AreComdats, records_said}
use Rattle.omf_frame.specs.Lending.{plain_frame}
use Rattle.doslink_passes.proofs.comdats.records_in.Goals as goal

pub returns : goal.returns
returns g c =
    IfOk-weaker c.comdat_records.result _ _
    (λ v are. subst (λ fs. AreComdats [] fs (records_said v.items))
    (ap (map plain_frame) c.deref.ensures.value ∙ c.in_ok-frames.ensures) are)
    c.comdat_records.ensures
