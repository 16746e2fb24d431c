use Rattle.std.proofs.Common.{subst, sym}
use Rattle.std.proofs.lemmas.Result.{IfOk-weaker}
use Rattle.doslink_stock.specs.Search.{TakesFor}
use Rattle.doslink_stock.proofs.searching.Stock.handed.Goals as goal

pub returns : goal.returns
returns g c =
    IfOk-weaker c.handed_from.result _ _
    (λ v found. λ names rounds searched.
    let (taken, takes, same) = found names rounds searched in subst (TakesFor names rounds) (sym same) takes)
    c.handed_from.ensures
