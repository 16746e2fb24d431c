use Rattle.std.proofs.Common.{[], ◌∷◌, ◌∙◌, ◌++◌, append-nil, arith, map, ap, sym}
use Rattle.std.proofs.lemmas.List.{map-append, take_all}
use Rattle.std.specs.List.{enumerate_from}
use Rattle.omf_communal.specs.Modules.{declared_at}
use Rattle.omf_communal.specs.Reading.{plain_communal}
use Rattle.omf_communal.specs.inside.Met.{declared_said}
use Rattle.omf_communal.proofs.Listing.{declared-turn}
use Rattle.omf_communal.proofs.modules.push_declared.Goals as goal

pub loop-communal-preserved : goal.loop-communal-preserved
loop-communal-preserved g c =
    declared-turn c.args.index c.args.communals.now c.loop-communal.communal c.index-communals-communal.result
    (map declared_said c.args.declared.now.items) (map declared_said c.loop-communal.declared.items) _
    c.loop-communal-test.true c.index-communals-communal.is c.loop-communal.invariant
    (ap (map declared_said) c.in_ok-push.ensures.items
    ∙ map-append declared_said c.loop-communal.declared.items (_ ∷ []))

pub loop-communal-init : goal.loop-communal-init
loop-communal-init g c = sym (append-nil (map declared_said c.args.declared.now.items))

pub returns : goal.returns
returns g c =
    c.loop-communal.invariant
    ∙ ap (λ cs. map declared_said c.args.declared.now.items
    ++ map (declared_at c.args.index) (enumerate_from 0 (map plain_communal cs)))
    (take_all c.loop-communal.communal c.args.communals.now (omega arith))
