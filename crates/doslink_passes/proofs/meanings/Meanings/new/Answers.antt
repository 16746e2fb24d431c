use Rattle.std.proofs.Common.{is_some, map, ap, ◌∙◌}
use Rattle.omf_search.specs.Results.{module_said}
use Rattle.doslink_passes.proofs.Held.{held-defined}
use Rattle.doslink_passes.proofs.meanings.Meanings.new.Goals as goal

pub invariant_of-result-clause-right : goal.invariant_of-result-clause-right
invariant_of-result-clause-right g c = λ name.
    ap is_some (c.in_ok-defined.ensures name)
    ∙ held-defined c.args.names (map module_said c.args.says.now) c.in_ok-held.held.items name c.in_ok-held.ensures
