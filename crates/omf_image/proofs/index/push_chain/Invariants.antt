use Rattle.std.proofs.Common.{◌≡◌, ◌++◌, ◌-◌, ℕ, List, length}
use Rattle.omf_image.specs.inside.Index.{Chain}
use Rattle.omf_image.proofs.index.push_chain.Given as goal

abbrev pub invariant-loop-at : goal.invariant-loop-at
invariant-loop-at g l =
    (list : List ℕ) → Chain l.nexts l.head list
    → (rest : List ℕ) × Chain l.nexts l.at rest × (l.positions.items ++ rest ≡ l.initial.positions.items ++ list)

abbrev pub decreases-loop-at : goal.decreases-loop-at
decreases-loop-at g l = length l.nexts - l.at
