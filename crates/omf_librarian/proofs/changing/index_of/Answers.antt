use Rattle.std.proofs.Common.{◌∙◌, sym, arith}
use Rattle.omf_librarian.proofs.Changes.{index-here, index-next, index-none}
use Rattle.omf_librarian.proofs.changing.index_of.Goals as goal

pub returns-then-has_name : goal.returns-then-has_name
returns-then-has_name c = record {
  said =
      sym (index-here c.args.members.now c.loop-index.index _ c.args.name.now c.loop-index-test.true
      (sym c.has_name.ensures ∙ c.if-has_name.true))
      ∙ c.loop-index.invariant;
  within = c.loop-index-test.true;
}

pub loop-index-preserved : goal.loop-index-preserved
loop-index-preserved c =
    index-next c.args.members.now c.loop-index.index _ c.args.name.now c.loop-index-test.true
    (sym c.has_name.ensures ∙ c.if-has_name.false)
    ∙ c.loop-index.invariant

pub returns : goal.returns
returns c = record {
  said =
      sym (index-none c.args.members.now c.loop-index.index c.args.name.now c.loop-index-test.false)
      ∙ c.loop-index.invariant;
  within = tt;
}
