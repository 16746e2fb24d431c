use Rattle.std.proofs.Common.{◌≡◌, ℕ, map, drop}
use Rattle.omf_module.specs.Before.{first, entry}
use Rattle.omf_module.specs.Faults as faults
use Rattle.omf_module.proofs.store.Store.components_fault.Given as goal

-- those that are left decide
abbrev pub invariant-loop-index : goal.invariant-loop-index
invariant-loop-index g l =
    let fault = λ (i : ℕ). faults.component_fault (entry l.self.segments i) in
    first (map fault (drop l.index-index l.components)) ≡ first (map fault l.components)
