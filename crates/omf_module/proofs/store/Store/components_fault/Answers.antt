use Rattle.std.proofs.Common.{ℕ, refl, sym, ◌∙◌}
use Rattle.omf_module.specs.Before.{entry}
use Rattle.omf_module.specs.Faults.{component_fault}
use Rattle.omf_module.proofs.Lists.{first_here, first_later, first_of_none}
use Rattle.omf_module.proofs.store.Store.components_fault.Goals as goal

pub loop-index-init : goal.loop-index-init
loop-index-init g c = refl

pub returns-in-Some : goal.returns-in-Some
returns-in-Some g c =
    let fault = λ (i : ℕ). component_fault (entry c.args.self.now.segments i) in
    first_here fault c.args.components.now c.loop-index.index-index _ c.loop-index-test.true c.in-Some.fault
    (sym c.component_fault.ensures ∙ c.in-Some.is) c.loop-index.invariant

pub loop-index-preserved : goal.loop-index-preserved
loop-index-preserved g c =
    let fault = λ (i : ℕ). component_fault (entry c.args.self.now.segments i) in
    first_later fault c.args.components.now c.loop-index.index-index _ c.loop-index-test.true
    (sym c.component_fault.ensures ∙ c.in_default.is) c.loop-index.invariant

pub returns : goal.returns
returns g c =
    let fault = λ (i : ℕ). component_fault (entry c.args.self.now.segments i) in
    first_of_none fault c.args.components.now c.loop-index.index-index c.loop-index-test.false c.loop-index.invariant
