use Rattle.std.proofs.Common.{is_none, sym, ◌∙◌, arith}
use Rattle.omf_alias.specs.Meaning.{meaning}
use Rattle.omf_alias.specs.Said.{alias_said, renaming_said}
use Rattle.omf_alias.proofs.Chains.{found-here, found-later, found-nowhere, none-said}
use Rattle.omf_alias.proofs.names.endless.Goals as goal

pub loop-alias-preserved : goal.loop-alias-preserved
loop-alias-preserved c =
    found-later alias_said (λ a. is_none (meaning (renaming_said c.args.renaming.now) a.name))
    c.args.aliases.now c.loop-alias.alias-index _ c.loop-alias-test.true
    (none-said _ _ _ c.meaning.ensures c.is_none.ensures ∙ c.if-is_none.false) c.loop-alias.invariant

pub returns-then-is_none : goal.returns-then-is_none
returns-then-is_none c =
    sym (found-here alias_said (λ a. is_none (meaning (renaming_said c.args.renaming.now) a.name))
    c.args.aliases.now c.loop-alias.alias-index _ c.loop-alias-test.true
    (none-said _ _ _ c.meaning.ensures c.is_none.ensures ∙ c.if-is_none.true) c.loop-alias.invariant)

pub returns : goal.returns
returns c =
    sym (found-nowhere alias_said (λ a. is_none (meaning (renaming_said c.args.renaming.now) a.name))
    c.args.aliases.now c.loop-alias.alias-index (omega arith) c.loop-alias.invariant)
