use Rattle.std.proofs.Common.{sym, arith, ◌∙◌}
use Rattle.doslink_words.proofs.NamingLemmas.{all-here, all-none}
use Rattle.doslink_words.proofs.naming.are_names.Goals as goal

pub returns-then-not-is_name : goal.returns-then-not-is_name
returns-then-not-is_name c =
    all-here c.args.names.now c.loop-name.name-index _ _ _ c.loop-name-test.true
    (sym c.is_name.ensures ∙ c.if-not-is_name.true) c.loop-name.invariant

pub loop-name-preserved : goal.loop-name-preserved
loop-name-preserved c =
    all-here c.args.names.now c.loop-name.name-index _ _ _ c.loop-name-test.true
    (sym c.is_name.ensures ∙ c.if-not-is_name.false) c.loop-name.invariant

pub returns : goal.returns
returns c = all-none c.args.names.now c.loop-name.name-index _ (omega arith) c.loop-name.invariant
