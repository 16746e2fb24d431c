use Rattle.std.proofs.Common.{◌≡◌, ◌∙◌, ◌++◌, ap, map}
use Rattle.omf_communal.specs.Deciding.{variable_said}
use Rattle.omf_communal.specs.Far.{far_names, firsts, reached_at, reached_in, reached_names, reached_said}
use Rattle.omf_communal.specs.Modules.{bytes_of}
use Rattle.omf_communal.proofs.Reaching.{reach-turn}
use Rattle.omf_communal.proofs.far.far_by_offset.Goals as goal

pub loop-index-preserved : goal.loop-index-preserved
loop-index-preserved g c =
    let vs = map variable_said c.args.variables.now in
    let list = bytes_of c.deref.result.now in
    let is : list ≡ far_names vs = ap bytes_of c.deref.ensures.value ∙ c.in_ok-far.ensures in
    let i = c.loop-index.index in
    let m = c.index-modules-index.result in
    let old = map reached_said c.loop-index.all.items in
    reach-turn (reached_in c.args.names (far_names vs)) c.args.modules.now i m old _ c.loop-index-test.true
    c.index-modules-index.is c.loop-index.invariant
    (c.in_ok-push_reached.ensures
    ∙ ap (λ ns. old ++ map (reached_at i) ns)
    (ap bytes_of c.deref-in-loop-index-2.ensures.value ∙ c.in_ok-once.ensures
    ∙ ap (firsts c.args.names)
    (ap bytes_of c.deref-in-loop-index.ensures.value ∙ c.in_ok-reached.ensures list c.in_ok-far-2.ensures
    ∙ ap (λ l. reached_names c.args.names l m) is)))
