use Rattle.std.proofs.Common.{◌∙◌, ap, map, refl}
use Rattle.std.proofs.lemmas.Result.{on_ok_weaker}
use Rattle.omf_frame.specs.Lending.{plain_frame}
use Rattle.doslib_show.proofs.Reading.{member-adds}
use Rattle.doslib_show.proofs.showing.Shown.add_member.Goals as goal

pub returns : goal.returns
returns g c =
    on_ok_weaker c.add_records.result
    (λ adds. member-adds _ _ _ _ _ _ (ap (map plain_frame) c.deref.ensures.value ∙ c.in_ok-frames.ensures)
    c.in_ok-push_member_line.ensures refl adds)
    c.add_records.ensures
