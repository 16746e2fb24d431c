use Rattle.std.proofs.Common.{arith, length}
use Rattle.std.proofs.lemmas.Str.{IsCharBoundary-after_ascii}
use Rattle.makefile_words.proofs.cut.named.Goals as goal

pub range_from-requires : goal.range_from-requires
range_from-requires c = λ _.
    IsCharBoundary-after_ascii c.args.word.now (length c.head-head.result.now) c.utf8.word c.if-head-word.true
    (omega (arith, c.head-head.ensures.slash c.if-head-word.true))
