use Rattle.std.proofs.Common.{map}
use Rattle.std.proofs.lemmas.Result.{IfOk-weaker}
use Rattle.omf_search.specs.Results.{module_said}
use Rattle.omf_search.proofs.unmet.missing.Goals as goal

pub returns : goal.returns
returns g c =
    IfOk-weaker c.missing_of.result _ _ (λ v found. found (map module_said c.args.modules.now) c.in_ok-taken.ensures)
    c.missing_of.ensures
