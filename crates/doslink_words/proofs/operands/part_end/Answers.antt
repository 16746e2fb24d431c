use Rattle.std.proofs.Common.{arith}
use Rattle.doslink_words.proofs.PartsLemmas.{ends_here, goes_on}
use Rattle.doslink_words.proofs.operands.part_end.Goals as goal

pub returns-then-is_comma-clause-end : goal.returns-then-is_comma-clause-end
returns-then-is_comma-clause-end c =
    let none =
    ends_here c.args.operands.now c.commas.end _ c.is_comma.result (omega arith) c.is_comma.ensures
    c.if-is_comma.true in
    omega (arith, none, c.commas.invariant.same)

pub commas-preserved : goal.commas-preserved
commas-preserved c =
    let more =
    goes_on c.args.operands.now c.commas.end _ c.is_comma.result (omega arith) c.is_comma.ensures c.if-is_comma.false in
    record {
      from = omega arith;
      within = omega arith;
      same = omega (arith, more, c.commas.invariant.same);
    }
