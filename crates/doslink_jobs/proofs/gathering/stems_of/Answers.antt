use Rattle.std.proofs.Common.{◌∙◌, ap, arith, map, subst}
use Rattle.std.proofs.lemmas.List.{take_all}
use Rattle.doslink_telling.specs.inside.Tables.{IsSetOf}
use Rattle.doslink_jobs.specs.inside.Gathering.{folded_stem}
use Rattle.doslink_passes.proofs.Lists.{map-map}
use Rattle.doslink_jobs.proofs.Stems.{names-more}
use Rattle.doslink_jobs.proofs.gathering.stems_of.Goals as goal

pub loop-name-preserved : goal.loop-name-preserved
loop-name-preserved g c = λ q.
    names-more (λ n. folded_stem n.now) c.args.names.now c.loop-name.name-index _ c.in_ok-stem.stem q _ _
    c.loop-name-test.true (c.in_ok-stem.ensures ∙ ap folded_stem c.as_bytes.ensures.value) (c.loop-name.invariant q)
    (c.in_ok-insert.ensures.updates.0 q)

pub returns : goal.returns
returns g c =
    subst (λ ns. IsSetOf ns c.loop-name.stems)
    (ap (map (λ n. folded_stem n.now)) (take_all c.loop-name.name-index c.args.names.now (omega arith))
    ∙ map-map (λ n. n.now) folded_stem c.args.names.now)
    c.loop-name.invariant
