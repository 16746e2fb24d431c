use Rattle.std.proofs.Common.{rules, ◌<◌, ◌∙◌, ◌∷◌, ◌++◌, [], ap, length, map}
use Rattle.std.proofs.lemmas.List.{map_push}
use Rattle.omf_search.specs.Results.{module_said, needs_said}
use Rattle.doslib_names.proofs.Lists.{mapped-all, mapped-more}
use Rattle.doslib_names.proofs.held.all_said.Goals as goal

pub loop-each-preserved : goal.loop-each-preserved
loop-each-preserved g c =
    let here : c.loop-each.each-index < length c.args.names.now = search rules in
    mapped-more needs_said c.args.names.now c.loop-each.each-index c.each-item.result _ _ [] here
    (ap (map module_said) c.in_ok-push.ensures.items ∙ map_push module_said c.loop-each.said.items c.needs.result
    ∙ ap (λ y. map module_said c.loop-each.said.items ++ y ∷ [])
    (c.needs.ensures ∙ ap needs_said c.each-item.is))
    c.loop-each.invariant

pub returns : goal.returns
returns g c =
    mapped-all needs_said c.args.names.now c.loop-each.each-index _ [] c.loop-each-test.false c.loop-each.invariant
