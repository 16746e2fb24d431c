use Rattle.std.proofs.Common.{[], Err, Ok, refl, subst}
use Rattle.std.specs.Io.KnownBytes.{Appends}
use Rattle.omf_frame.proofs.Told.{Appends-nil}
use Rattle.doslib_jobs.specs.Reading.{unread_line}
use Rattle.doslib_jobs.proofs.telling.tell_file.Goals as goal

pub returns-in_ok-add_faults-in-Ok-clause-adds : goal.returns-in_ok-add_faults-in-Ok-clause-adds
returns-in_ok-add_faults-in-Ok-clause-adds g c =
    let told = c.in_ok-told-in-Ok.told in
    record {
      bytes = Ok c.in-Ok.file.bytes.items;
      text = told.text.items;
      faults = told.faults.items;
      is = (c.in-Ok.ensures.told, c.in_ok-told-in-Ok.ensures);
      appended = subst (Appends _ _) c.deref.ensures.value c.in_ok-put_all-in-Ok.ensures.0;
      lines = rw c.deref-in-Ok.ensures.value at c.in_ok-add_faults-in-Ok.ensures.lines;
      greatest_is = rw c.deref-in-Ok.ensures.value at c.in_ok-add_faults-in-Ok.ensures.status;
    }

pub returns-in_ok-add_unread-in-Err-clause-adds : goal.returns-in_ok-add_unread-in-Err-clause-adds
returns-in_ok-add_unread-in-Err-clause-adds g c = record {
  bytes = Err c.in-Err.fault;
  text = [];
  faults = unread_line c.args.path.now c.in-Err.fault;
  is = (tt, (refl, refl));
  appended = Appends-nil _;
  lines = c.in_ok-add_unread-in-Err.ensures.lines;
  greatest_is = c.in_ok-add_unread-in-Err.ensures.status;
}
