use Rattle.std.proofs.Common.{◌++◌, ◌∷◌, [], arith, map, ap, ap₂, sym, ◌∙◌}
use Rattle.std.proofs.lemmas.List.{map_more, take_all}
use Rattle.doslink_jobs.specs.Jobs.{sought_of}
use Rattle.doslink_jobs.proofs.gathering.all_sought.Goals as goal

pub loop-input-init : goal.loop-input-init
loop-input-init g c = c.new-sought.ensures.items

pub loop-input-preserved : goal.loop-input-preserved
loop-input-preserved g c =
    c.in_ok-push.ensures.items ∙ ap₂ (λ l x. l ++ x ∷ []) c.loop-input.invariant c.sought_of-one.ensures
    ∙ sym (map_more sought_of c.args.inputs.now c.loop-input.input-index _ c.loop-input-test.true)

pub returns : goal.returns
returns g c =
    c.loop-input.invariant
    ∙ ap (map sought_of) (take_all c.loop-input.input-index c.args.inputs.now (omega arith))
