use Rattle.std.proofs.Common.{◌∙◌, ◌++◌, ◌∷◌, [], ℕ, List, sym, ap, arith, append_assoc, append-nil}
use Rattle.omf_image.proofs.Chains.{chain_step, chain_end}
use Rattle.omf_image.proofs.index.push_chain.Goals as goal

pub loop-at-preserved : goal.loop-at-preserved
loop-at-preserved g c list chain =
    let old = c.loop-at.invariant list chain in
    let step = chain_step c.args.nexts.now c.loop-at.at old.0 c.loop-at-test.true old.1 in (
      step.0,
      step.2,
      ap (λ (l : List ℕ). l ++ step.0) c.in_ok-push.ensures.items
          ∙ append_assoc c.loop-at.positions.items (c.loop-at.at ∷ []) step.0
          ∙ ap (λ (l : List ℕ). c.loop-at.positions.items ++ l) (sym step.1) ∙ old.2,
    )

pub returns : goal.returns
returns g c list chain =
    let old = c.loop-at.invariant list chain in
    sym (append-nil c.loop-at.positions.items)
    ∙ ap (λ (l : List ℕ). c.loop-at.positions.items ++ l)
    (sym (chain_end c.args.nexts.now c.loop-at.at old.0 (omega (arith, c.loop-at-test.false)) old.1)) ∙ old.2
