use Rattle.std.proofs.Common.{ℕ, List, sym, refl, arith, subst}
use Rattle.std.proofs.lemmas.Result.{err_from_is_err_and}
use Rattle.omf_library.specs.inside.Views.{plain_entry}
use Rattle.omf_library.proofs.Told.{ArchiveLeft, archive_fault, archive_first, archive_last, archive_more, fault-is}
use Rattle.omf_library.proofs.archive.archive_members.Goals as goal

pub returns-in_err-entry-clause-members : goal.returns-in_err-entry-clause-members
returns-in_err-entry-clause-members g c =
    let p = err_from_is_err_and c.from_residual-in_err-entry.result c.from_residual-in_err-entry.ensures.1 in
    rw (p.1, p.2)
    (fault-is _ _ (archive_fault c.args.file.now c.loop-place.names.table.now c.loop-place.place
    c.loop-place.members.items _
    c.loop-place.invariant.left c.loop-place-test.true (sym c.in_err-entry.ensures.said)))

pub returns-clause-members : goal.returns-clause-members
returns-clause-members g c =
    archive_last c.args.file.now c.loop-place.names.table.now c.loop-place.place c.loop-place.members.items
    c.loop-place.invariant.left (omega arith)

pub returns-clause-parts : goal.returns-clause-parts
returns-clause-parts g c = c.loop-place.invariant.left.parts

pub loop-place-init : goal.loop-place-init
loop-place-init g c = record {
  left =
      subst (λ (t : List ℕ). ArchiveLeft c.args.file.now t 8 c.new-members.result.items) (sym c.in_ok-names.ensures.table)
      (rw c.new-members.ensures.items (archive_first c.args.file.now));
  measured = c.in_ok-names.ensures.measured;
}

pub loop-place-preserved : goal.loop-place-preserved
loop-place-preserved g c =
    let file = c.args.file.now in
    let left = c.loop-place.invariant.left in
    let pushed = c.in_ok-push_module.ensures in
    record {
      left =
          archive_more file c.loop-place.names.table.now c.in_ok-names-2.names.table.now c.loop-place.place _
          c.loop-place.members.items c.push_module.new.members.items (plain_entry c.in_ok-entry.entry) left
          c.loop-place-test.true (sym c.in_ok-entry.ensures.said) c.in_ok-names-2.ensures.table refl pushed.told
          (pushed.own file left.parts c.in_ok-entry.ensures.content.own);
      measured = c.in_ok-names-2.ensures.measured;
    }
