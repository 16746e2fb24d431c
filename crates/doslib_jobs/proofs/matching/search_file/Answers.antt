use Rattle.std.proofs.Common.{[], Err, Ok, append-nil, refl, subst, sym}
use Rattle.std.specs.Io.KnownBytes.{Appends}
use Rattle.omf_frame.proofs.Told.{Appends-nil}
use Rattle.doslib_jobs.specs.Matching.{Searched}
use Rattle.doslib_jobs.specs.Reading.{unread_line}
use Rattle.doslib_jobs.proofs.matching.search_file.Goals as goal

pub returns-in_ok-add_faults-in-Ok-clause-adds : goal.returns-in_ok-add_faults-in-Ok-clause-adds
returns-in_ok-add_faults-in-Ok-clause-adds g c =
    let told = c.in_ok-told-in-Ok.told in
    let one : Searched = record {
      path = c.args.path.now;
      bytes = Ok c.in-Ok.file.bytes.items;
      text = told.text.items;
      spans = told.spans.items;
      faults = told.faults.items;
    } in
    record {
      one = one;
      here = refl;
      is = (c.in-Ok.ensures.told, c.in_ok-told-in-Ok.ensures);
      appended = subst (Appends _ _) c.deref.ensures.value c.in_ok-put_all-in-Ok.ensures.0;
      spans = rw c.deref-in-Ok.ensures.value at c.in_ok-extend_from_slice-in-Ok.ensures.items;
      lines = rw c.deref-in-Ok-2.ensures.value at c.in_ok-add_faults-in-Ok.ensures.lines;
      greatest_is = rw c.deref-in-Ok-2.ensures.value at c.in_ok-add_faults-in-Ok.ensures.status;
    }

pub returns-in_ok-add_unread-in-Err : goal.returns-in_ok-add_unread-in-Err
returns-in_ok-add_unread-in-Err g c =
    let one : Searched = record {
      path = c.args.path.now;
      bytes = Err c.in-Err.fault;
      text = [];
      spans = [];
      faults = unread_line c.args.path.now c.in-Err.fault;
    } in
    record {
      working = c.requires;
      adds = record {
        one = one;
        here = refl;
        is = (tt, (refl, refl, refl));
        appended = Appends-nil _;
        spans = sym (append-nil c.args.matched.now.spans.items);
        lines = c.in_ok-add_unread-in-Err.ensures.lines;
        greatest_is = c.in_ok-add_unread-in-Err.ensures.status;
      };
    }
