use Rattle.std.proofs.Common.{sym, arith}
use Rattle.omf_image.proofs.Covering.{covers_empty, seen_words}
use Rattle.omf_image.proofs.adding.covers_relocated.Goals as goal

pub returns-then-len-eq0 : goal.returns-then-len-eq0
returns-then-len-eq0 c bytes listed n m =
    sym (covers_empty (record { start = c.args.start; bytes = bytes }) listed (omega (arith, n, c.if-len-eq0.true)))

pub returns : goal.returns
returns c bytes listed n m =
    seen_words (record { start = c.args.start; bytes = bytes }) c.args.words.now listed _ _ c.loop-address.covers m
    (omega (arith, n, c.if-len-eq0.false))
    (omega (arith, c.saturating_sub-first.ensures)) (omega (arith, n, c.loop-address-test.false, c.loop-address.auto))
    c.loop-address.invariant
