use Rattle.std.proofs.Common.{arith}
use Rattle.omf_library.specs.Members.{plain_member}
use Rattle.omf_library.proofs.Endings.{end_first, end_next, end_unpaged}
use Rattle.omf_library.proofs.ending.library_end.Goals as goal

pub returns-in_default : goal.returns-in_default
returns-in_default c = end_unpaged c.args.file.now c.in_default.field-0 c.in_default.ensures.size

pub loop-place-init : goal.loop-place-init
loop-place-init c = end_first c.args.file.now c.in-Ok.page c.in-Ok.ensures.size

pub loop-place-preserved : goal.loop-place-preserved
loop-place-preserved c =
    end_next c.args.file.now c.in-Ok.page c.loop-place.place c.next_multiple_of-place.result
    (plain_member c.in-Ok-member_at.member) c.loop-place.invariant c.loop-place-test.true c.if-file-place.false
    c.in-Ok-member_at.ensures.said c.next_multiple_of-place.ensures.value
    (omega (arith, c.next_multiple_of-place.ensures.lower_bound, c.in-Ok-member_at.ensures.part.some))
