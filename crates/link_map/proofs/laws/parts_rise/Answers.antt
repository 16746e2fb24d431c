use Rattle.link_map.specs.Ordered.{ordered}
use Rattle.link_map.specs.Detailed.{by_address}
use Rattle.link_map.proofs.InOrder.{Ascends-ordered, kept-ordered}
use Rattle.link_map.proofs.Stable.{addresses_order, permuted-ordered, sorted-ascends}
use Rattle.link_map.proofs.laws.parts_rise.Goals as goal

pub returns-clause-same : goal.returns-clause-same
returns-clause-same c = λ all. permuted-ordered by_address all

pub returns-clause-rising : goal.returns-clause-rising
returns-clause-rising c = λ all.
    sorted-ascends by_address (ordered by_address all) (Ascends-ordered by_address addresses_order all)

pub returns-clause-stable : goal.returns-clause-stable
returns-clause-stable c = λ all w. kept-ordered by_address addresses_order w all
