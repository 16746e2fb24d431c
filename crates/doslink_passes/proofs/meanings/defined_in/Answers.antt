use Rattle.std.proofs.Common.{[], map, ap, ◌∙◌, arith}
use Rattle.std.proofs.lemmas.List.{get_or_default, take_all}
use Rattle.std.specs.List.{flat_map}
use Rattle.omf_library.proofs.Gathering.{gather-turn}
use Rattle.omf_search.specs.Results.{module_said}
use Rattle.doslink_passes.specs.inside.Defined.{defined_names, names_held}
use Rattle.doslink_passes.proofs.meanings.defined_in.Goals as goal

pub loop-each-preserved : goal.loop-each-preserved
loop-each-preserved g c =
    gather-turn module_said defined_names c.args.says.now c.loop-each.each-index _ []
    (names_held c.loop-each.held.items) _ c.loop-each-test.true
    (get_or_default c.args.says.now c.loop-each.each-index _ _ c.loop-each-test.true) c.loop-each.invariant
    c.in_ok-push_defined.ensures

pub returns : goal.returns
returns g c =
    c.loop-each.invariant
    ∙ ap (λ ms. flat_map defined_names (map module_said ms))
    (take_all c.loop-each.each-index c.args.says.now (omega arith))
