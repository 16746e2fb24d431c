use Rattle.std.proofs.Common.{sym, arith}
use Rattle.std.proofs.lemmas.Result.{err_from_is_err_and}
use Rattle.omf_library.proofs.Told.{fault-is, no_page, members_cut, members_fault, members_first, members_last}
use Rattle.omf_library.proofs.Told.{members_more}
use Rattle.omf_library.proofs.library.library_members.Goals as goal

pub returns-in_err-page-clause-members : goal.returns-in_err-page-clause-members
returns-in_err-page-clause-members g c =
    let p = err_from_is_err_and c.from_residual.result c.from_residual.ensures.1 in
    rw (p.1, p.2) (fault-is _ _ (no_page c.args.file.now _ (sym c.in_err-page.ensures.size)))

pub loop-place-init : goal.loop-place-init
loop-place-init g c =
    rw c.new-members.ensures.items (members_first c.args.file.now c.in_ok-page.page (sym c.in_ok-page.ensures.size))

pub loop-place-preserved : goal.loop-place-preserved
loop-place-preserved g c =
    let member = c.in_ok-member.member in
    rw c.in_ok-push.ensures.items
    (members_more c.args.file.now c.in_ok-page.page c.loop-place.place c.next_multiple_of-place.result
    c.loop-place.members.items member
    c.loop-place.invariant (omega arith) c.if-file-place.false (sym c.in_ok-member.ensures.said)
    c.in_ok-member.ensures.part c.next_multiple_of-place.ensures.value
    (omega (arith, c.next_multiple_of-place.ensures.lower_bound, c.in_ok-member.ensures.part.some)))

pub returns-then-place-file-clause-members : goal.returns-then-place-file-clause-members
returns-then-place-file-clause-members g c =
    members_cut c.args.file.now c.in_ok-page.page c.loop-place.place c.loop-place.members.items c.loop-place.invariant
    (omega arith)

pub returns-in_err-member-clause-members : goal.returns-in_err-member-clause-members
returns-in_err-member-clause-members g c =
    let p = err_from_is_err_and c.from_residual-in_err-member.result c.from_residual-in_err-member.ensures.1 in
    rw (p.1, p.2)
    (fault-is _ _ (members_fault c.args.file.now c.in_ok-page.page c.loop-place.place c.loop-place.members.items _
    c.loop-place.invariant (omega arith) c.if-file-place.false (sym c.in_err-member.ensures.said)))

pub returns-then-file-place-clause-members : goal.returns-then-file-place-clause-members
returns-then-file-place-clause-members g c =
    members_last c.args.file.now c.in_ok-page.page c.loop-place.place c.loop-place.members.items c.loop-place.invariant
    (omega arith) c.if-file-place.true

pub returns-then-file-place-clause-parts : goal.returns-then-file-place-clause-parts
returns-then-file-place-clause-parts g c = c.loop-place.invariant.parts
