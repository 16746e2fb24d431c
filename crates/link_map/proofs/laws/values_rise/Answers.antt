use Rattle.link_map.specs.Ordered.{ordered}
use Rattle.link_map.specs.Public.{by_value}
use Rattle.link_map.proofs.InOrder.{Ascends-ordered, kept-ordered}
use Rattle.link_map.proofs.Stable.{values_order, permuted-ordered, sorted-ascends}
use Rattle.link_map.proofs.laws.values_rise.Goals as goal

pub returns-clause-same : goal.returns-clause-same
returns-clause-same c = λ all. permuted-ordered by_value all

pub returns-clause-rising : goal.returns-clause-rising
returns-clause-rising c = λ all.
    sorted-ascends by_value (ordered by_value all) (Ascends-ordered by_value values_order all)

pub returns-clause-stable : goal.returns-clause-stable
returns-clause-stable c = λ all w. kept-ordered by_value values_order w all
