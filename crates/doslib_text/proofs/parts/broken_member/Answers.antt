use Rattle.std.proofs.Common.{sym, arith}
use Rattle.doslib_text.proofs.Walking.{broken_first, broken_more, broken_past, broken_stop}
use Rattle.doslib_text.proofs.parts.broken_member.Goals as goal

pub loop-place-init : goal.loop-place-init
loop-place-init c = broken_first c.args.file.now c.args.page c.requires.least

pub returns-in_default : goal.returns-in_default
returns-in_default c =
    broken_stop c.args.file.now c.args.page c.loop-place.place c.module_end.result c.loop-place.invariant (omega arith)
    c.module_end.ensures.said (λ end e. c.in_default.not-Ok end e)

pub loop-place-preserved : goal.loop-place-preserved
loop-place-preserved c =
    broken_more c.args.file.now c.args.page c.loop-place.place c.in-Ok.end c.next_multiple_of-place.result
    c.loop-place.invariant (omega arith) (sym c.in-Ok.ensures.said) c.next_multiple_of-place.ensures.value
    (omega (arith, c.next_multiple_of-place.ensures.lower_bound, c.in-Ok.ensures.behind))

pub returns : goal.returns
returns c = broken_past c.args.file.now c.args.page c.loop-place.place c.loop-place.invariant (omega arith)
