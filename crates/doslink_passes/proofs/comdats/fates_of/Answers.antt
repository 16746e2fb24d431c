use Rattle.std.proofs.Common.{map, ap, subst, ◌∙◌}
use Rattle.doslink_passes.specs.Comdats.{AreFatesFor, HaveClash}
use Rattle.doslink_passes.specs.Request.{given_of, names_of}
use Rattle.doslink_passes.proofs.Refused.{steps-weaker}
use Rattle.doslink_passes.proofs.comdats.fates_of.Goals as goal

pub returns : goal.returns
returns g c =
    let r = c.args.request.now in
    let same = ap (map (λ g. g.bytes.now)) c.deref.ensures.value ∙ c.in_ok-given.ensures in
    steps-weaker c.fates_among.result
    (λ v are. subst (λ n. AreFatesFor n (given_of r) (map (λ fates. fates.items) v.items)) c.names.ensures
    (subst (λ l. AreFatesFor c.names.result l (map (λ fates. fates.items) v.items)) same are))
    (λ clash. subst (λ n. HaveClash n (given_of r)) c.names.ensures (subst (HaveClash c.names.result) same clash))
    c.fates_among.ensures
